-- When the digits before and behind a point are a decimal.
use Rattle.std.proofs.Common.{◌≡◌, ◌<◌, ◌≤◌, ◌+◌, ◌^◌, ℕ, ℤ, pos, negsuc, suc, List, [], ◌∷◌, ◌++◌, length, take, drop, true, false, Bool, cond, Option, Some, None, refl, ap, sym, ◌∙◌, arith, w64, subst}
use Rattle.std.proofs.Math.Bool.{Bool-set}
use Rattle.std.specs.Prelude.{unsigned_abs, nat_lt, ◌&&◌, ◌==◌}
use Rattle.std.specs.Char.{is_ascii_digit}
use Rattle.std.specs.List.{prefix_len}
use Rattle.std.specs.Str.Parse.{IsNumeral, AllDigits, without_leading_sign, signed_digits_value}
use Rattle.std.proofs.lemmas.Bool.{and_parts, ltb-true, lt-ltb}
use mir.Val.{SFits}
use Rattle.rj_condition.specs.declared.decimal.DecimalLiteral.{DecimalLiteral}
use Rattle.rj_condition.specs.Sizes.{is_short}
use Rattle.rj_condition.specs.Internal.Decimals.{checked, decimal_of}
use Rattle.rj_condition.specs.Tokens.{begins, is_name_byte, IsDecimal}
use Rattle.rj_condition.specs.Internal.Scanning.{fits_word, is_integer, decimal_parts, with_rest, judged_decimal, fraction_at}
use Rattle.rj_condition.proofs.Quotes.{some_same}
use Rattle.rj_condition.proofs.Integers.{integer-Decides, fits-Decides}

-- a decimal, where its digits are few enough
pub checked_is : (units : ℤ) (scale : ℕ) (b : Bool) (h : is_short units scale ≡ b) (p : is_short units scale ≡ true) →
    checked units scale b h ≡ Some record { units = units; scale = scale; short = p }
checked_is units scale true h p = ap (λ (q : is_short units scale ≡ true). Some record { units = units; scale = scale; short = q }) (one_proof h p)
  where
    one_proof : {b c : Bool} (h p : b ≡ c) → h ≡ p
    one_proof h p = Bool-set _ _ h p
checked_is units scale false h p = cc

checked_some : (units : ℤ) (scale : ℕ) (b : Bool) (h : is_short units scale ≡ b) (d : DecimalLiteral) → checked units scale b h ≡ Some d → (d.scale ≡ scale) × (d.units ≡ units)
checked_some units scale true h d e =
    let s = some_same _ _ e in
    (sym (ap (λ (z : DecimalLiteral). z.scale) s), sym (ap (λ (z : DecimalLiteral). z.units) s))
checked_some units scale false h d e = cc

own : (d : DecimalLiteral) → decimal_of d.units d.scale ≡ Some d
own d = checked_is d.units d.scale (is_short d.units d.scale) refl d.short

-- a sign stands before the digits of both parts
unsigned_append : (before after : List ℕ) → 0 < length before → without_leading_sign (before ++ after) ≡ without_leading_sign before ++ after
unsigned_append [] after lt = absurd (omega arith)
unsigned_append (b ∷ ds) after lt =
    elim (b == 45) as (λ c. cond c (ds ++ after) (drop (cond (b == 43) 1 0) (b ∷ (ds ++ after))) ≡ cond c ds (drop (cond (b == 43) 1 0) (b ∷ ds)) ++ after) [
      | true ↦ refl
      | false ↦ elim (b == 43) as (λ c. drop (cond c 1 0) (b ∷ (ds ++ after)) ≡ drop (cond c 1 0) (b ∷ ds) ++ after) [ true ↦ refl | false ↦ refl ]
    ]

some_before : (before : List ℕ) → 0 < length (without_leading_sign before) → 0 < length before
some_before [] lt = absurd (omega (arith, lt))
some_before (b ∷ before) lt = omega arith

digits_split : (xs ys : List ℕ) → AllDigits 10 (xs ++ ys) → AllDigits 10 xs × AllDigits 10 ys
digits_split [] ys h = (tt, h)
digits_split (x ∷ xs) ys h = let s = digits_split xs ys h.1 in ((h.0, s.0), s.1)

digits_join : (xs ys : List ℕ) → AllDigits 10 xs → AllDigits 10 ys → AllDigits 10 (xs ++ ys)
digits_join [] ys h k = k
digits_join (x ∷ xs) ys h k = (h.0, digits_join xs ys h.1 k)

joined_some : (xs ys : List ℕ) → 0 < length xs → 0 < length (xs ++ ys)
joined_some [] ys lt = absurd (omega (arith, lt))
joined_some (x ∷ xs) ys lt = omega arith

-- a decimal's units are a number of 64 bits
below_fits : (z : ℤ) → nat_lt (unsigned_abs z) (10 ^ 18) ≡ true → fits_word z ≡ true
below_fits (pos n) e = lt-ltb n (2 ^ 63) (omega (arith, ltb-true n (10 ^ 18) e))
below_fits (negsuc n) e = lt-ltb n (2 ^ 63) (omega (arith, ltb-true (suc n) (10 ^ 18) e))

-- which way the test of the parts went
tested : (a b c : Bool) (x : Option DecimalLiteral) (d : DecimalLiteral) → cond (a && b && c) x None ≡ Some d → (a ≡ true) × (b ≡ true) × (c ≡ true) × (x ≡ Some d)
tested true true true x d e = (refl, refl, refl, e)
tested true true false x d e = cc
tested true false c x d e = cc
tested false b c x d e = cc

pub parts_sound : (before after : List ℕ) (d : DecimalLiteral) → 0 < length after → decimal_parts before after ≡ Some d → IsDecimal d (before ++ 46 ∷ after)
parts_sound before after d some e =
    let t = tested (is_integer (before ++ after)) (nat_lt 0 (length (without_leading_sign before))) (nat_lt (length (without_leading_sign before) + length after) 19)
    (decimal_of (signed_digits_value 10 (before ++ after)) (length after)) d e in
    let number = (integer-Decides (before ++ after)).0 t.0 in
    let filled = ltb-true 0 (length (without_leading_sign before)) t.1 in
    let few = ltb-true (length (without_leading_sign before) + length after) 19 t.2 in
    let P : List ℕ → Type 0 = AllDigits 10 in
    let digits = digits_split (without_leading_sign before) after (subst P (unsigned_append before after (some_before before filled)) number.0.1) in
    let value = checked_some _ _ _ _ d t.3 in
    (before, after, refl, (filled, digits.0), (some, digits.1), omega (arith, few), value.0, value.1)

all_three : (a b c : Bool) (x : Option DecimalLiteral) → a ≡ true → b ≡ true → c ≡ true → cond (a && b && c) x None ≡ x
all_three a b c x e f g = rw (e, f, g) refl

pub parts_found : (before after : List ℕ) (d : DecimalLiteral) → IsNumeral 10 (without_leading_sign before) → IsNumeral 10 after → length (without_leading_sign before) + length after ≤ 18 →
    d.scale ≡ length after → d.units ≡ signed_digits_value 10 (before ++ after) → decimal_parts before after ≡ Some d
parts_found before after d m n few scale units =
    let P : List ℕ → Type 0 = IsNumeral 10 in
    let digits = subst P (sym (unsigned_append before after (some_before before m.0))) (joined_some (without_leading_sign before) after m.0, digits_join (without_leading_sign before) after m.1 n.1) in
    let Q : ℤ → Type 0 = SFits w64 in
    let fits = subst Q units ((fits-Decides d.units).0 (below_fits d.units (and_parts _ _ d.short).1)) in
    all_three (is_integer (before ++ after)) (nat_lt 0 (length (without_leading_sign before))) (nat_lt (length (without_leading_sign before) + length after) 19)
    (decimal_of (signed_digits_value 10 (before ++ after)) (length after))
    ((integer-Decides (before ++ after)).1 (digits, fits)) (lt-ltb _ _ m.0) (lt-ltb _ _ (omega (arith, few)))
    ∙ ap (λ z. decimal_of z (length after)) (sym units)
    ∙ ap (decimal_of d.units) (sym scale)
    ∙ own d

-- what the lexer makes of the digits of both parts
pub made : (units u : ℤ) (scale : ℕ) (p : is_short u scale ≡ true) → u ≡ units → Some record { units = u; scale = scale; short = p } ≡ decimal_of units scale
made units u scale p e = sym (checked_is u scale (is_short u scale) refl p) ∙ ap (λ z. decimal_of z scale) e

pub parts_ok : (before after : List ℕ) (units : ℤ) (scale : ℕ) → is_integer (before ++ after) ≡ true → 0 < length (without_leading_sign before)
    → length (without_leading_sign before) + length after ≤ 18 →
    units ≡ signed_digits_value 10 (before ++ after) → scale ≡ length after → decimal_of units scale ≡ decimal_parts before after
parts_ok before after units scale is some few e f =
    ap (λ z. decimal_of z scale) e
    ∙ ap (decimal_of (signed_digits_value 10 (before ++ after))) f
    ∙ sym (all_three (is_integer (before ++ after)) (nat_lt 0 (length (without_leading_sign before))) (nat_lt (length (without_leading_sign before) + length after) 19) _ is (lt-ltb _ _ some)
    (lt-ltb _ _ (omega (arith, few))))

pub parts_err : (before after : List ℕ) → is_integer (before ++ after) ≡ false → None ≡ decimal_parts before after
parts_err before after is =
    sym (ap (λ c. cond (c && nat_lt 0 (length (without_leading_sign before)) && nat_lt (length (without_leading_sign before) + length after) 19)
    (decimal_of (signed_digits_value 10 (before ++ after)) (length after)) None) is)

pub fraction_some : (before bs text after rest : List ℕ) (n : ℕ) (d : DecimalLiteral) → bs ≡ text → n ≡ prefix_len is_ascii_digit bs → after ≡ take n text → rest ≡ drop n text →
    begins is_name_byte rest ≡ false → Some d ≡ decimal_parts before after → Some (d, rest) ≡ fraction_at before text
unfolding fraction_at
fraction_some before bs text after rest n d same len f r ends is =
    let k : n ≡ prefix_len is_ascii_digit text = len ∙ ap (prefix_len is_ascii_digit) same in
    ap (λ o. with_rest o rest) is
    ∙ sym (ap (λ c. cond c None (with_rest (decimal_parts before after) rest)) ends)
    ∙ ap (λ z. judged_decimal before z rest) (f ∙ ap (λ i. take i text) k)
    ∙ ap (judged_decimal before (take (prefix_len is_ascii_digit text) text)) (r ∙ ap (λ i. drop i text) k)
