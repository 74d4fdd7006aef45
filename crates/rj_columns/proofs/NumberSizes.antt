-- The size that the digits before and after a point write.
use Rattle.std.proofs.Common.{◌≡◌, ℕ, zero, suc, Bool, true, false, ◌+◌, ◌*◌, ◌-◌, ◌^◌, ◌<◌, ◌≤◌, min, List, [], ◌∷◌, ◌++◌, take, drop, length, get_or, Option, None, Some, SomeIff, IfSome, refl, sym, ap, ◌∙◌, arith}
use Rattle.std.specs.Prelude.{◌==◌, ◌&&◌, nat_lt, if◌then◌else◌}
use Rattle.std.specs.Char.{digit_value, is_ascii_digit}
use Rattle.std.specs.Str.{all_ascii_digits}
use Rattle.std.specs.Str.Parse.{digits_value, digits_value_after}
use Rattle.std.proofs.lemmas.Bool.Decides.{nat_tests}
use Rattle.std.proofs.lemmas.List.{length-append, take_min, take-append-drop, drop_all}
use Rattle.std.proofs.Math.Nat.{mul-le-mul_right, mul-suc, pow-le-pow_right}
use Rattle.std.proofs.lemmas.Nat.{pow-add}
use Rattle.rj_columns.specs.NumbersRead.{after_point, are_digits, are_zeros, before_point, has_point, is_unsigned_text, size_at, IsSize}
use Rattle.rj_columns.proofs.Shifts.{ten_pow_pos}
use Rattle.rj_columns.proofs.Digits.{value_after-append, value_after-below, value_after-least}

pub SomeIff-same : (r : Option ℕ) (P Q : Type 0) (v w : ℕ) → (P → Q) → (Q → P) → v ≡ w → SomeIff r P v → SomeIff r Q w
SomeIff-same None P Q v w to from e h = λ q. h (from q)
SomeIff-same (Some x) P Q v w to from e h = (to h.0, h.1 ∙ e)

pub both : (a b : Bool) → a && b ≡ true → (a ≡ true) × (b ≡ true)
both true b e = (refl, e)
both false b e = cc

pub and : (a b : Bool) → a ≡ true → b ≡ true → a && b ≡ true
and a b e f = rw (e, f) refl

pub digits-append : (xs ys : List ℕ) → all_ascii_digits (xs ++ ys) ≡ all_ascii_digits xs && all_ascii_digits ys
digits-append [] ys = refl
digits-append (x ∷ xs) ys =
    elim (is_ascii_digit x) as (λ b. b && all_ascii_digits (xs ++ ys) ≡ (b && all_ascii_digits xs) && all_ascii_digits ys) [ true ↦ digits-append xs ys | false ↦ refl ]

-- zeros are digits
zero-digit : (c : ℕ) → c == 48 ≡ true → is_ascii_digit c ≡ true
zero-digit c e = grind (arith, nat_tests)

pub zeros-digits : (xs : List ℕ) → are_zeros xs ≡ true → all_ascii_digits xs ≡ true
zeros-digits [] e = refl
zeros-digits (x ∷ xs) e =
    let b = both (x == 48) (are_zeros xs) e in
    and (is_ascii_digit x) (all_ascii_digits xs) (zero-digit x b.0) (zeros-digits xs b.1)

pub pow-le : (p : ℕ) → p ≤ 18 → 10 ^ p ≤ 10 ^ 18
pow-le p h = pow-le-pow_right (omega arith) h

pub times-ge : (n m : ℕ) → 0 < m → n ≤ n * m
times-ge n zero p = absurd (omega arith)
times-ge n (suc m) p = omega (arith, mul-suc n m)

-- digits, and digits that follow them: xs, of which zs is what follows its leading zeros, and ys
pub together-none : (xs zs ys : List ℕ) → all_ascii_digits xs ≡ all_ascii_digits zs → (all_ascii_digits zs ≡ true → ⊥)
    → (all_ascii_digits (xs ++ ys) ≡ true) × (digits_value 10 (xs ++ ys) < 10 ^ 18) → ⊥
together-none xs zs ys d none h = none (sym d ∙ (both (all_ascii_digits xs) (all_ascii_digits ys) (sym (digits-append xs ys) ∙ h.0)).0)

some-digit : (c : ℕ) → is_ascii_digit c ≡ true → (c ≡ 48 → ⊥) → 1 ≤ digit_value c
some-digit c e ne = grind (arith, nat_tests)

-- more than 18 digits, of which the first one isn't 0
pub together-long : (xs zs ys : List ℕ) → all_ascii_digits xs ≡ all_ascii_digits zs → digits_value 10 xs ≡ digits_value 10 zs → (0 < length zs → get_or zs 0 0 ≡ 48 → ⊥)
    → length ys ≤ 18 → 18 < length zs + length ys → (all_ascii_digits (xs ++ ys) ≡ true) × (digits_value 10 (xs ++ ys) < 10 ^ 18) → ⊥
together-long xs [] ys d e first few long h = omega arith
together-long xs (z ∷ zs) ys d e first few long h =
    let all = both (all_ascii_digits xs) (all_ascii_digits ys) (sym (digits-append xs ys) ∙ h.0) in
    let digits = both (is_ascii_digit z) (all_ascii_digits zs) (sym d ∙ all.0) in
    let n = 0 * 10 + digit_value z in
    let some : 1 ≤ n = omega (arith, some-digit z digits.0 (first (omega arith))) in
    let value : digits_value 10 (xs ++ ys) ≡ digits_value_after 10 n (zs ++ ys) =
    value_after-append 0 xs ys ∙ (ap (λ m. digits_value_after 10 m ys) e ∙ sym (value_after-append n zs ys)) in
    let long_enough : 18 ≤ length (zs ++ ys) = omega (arith, length-append zs ys) in
    let power : 10 ^ 18 ≤ 10 ^ length (zs ++ ys) = pow-le-pow_right (omega arith) long_enough in
    let product : 1 * 10 ^ length (zs ++ ys) ≤ n * 10 ^ length (zs ++ ys) = mul-le-mul_right (10 ^ length (zs ++ ys)) some in
    omega (arith, h.1, value, power, product, value_after-least n (zs ++ ys))

-- at most 18 digits
pub first-room : (zs : List ℕ) → length zs ≤ 18 → (0 + 1) * 10 ^ length zs ≤ 10 ^ 18
first-room zs few = omega (arith, pow-le (length zs) few)

pub second-room : (zs ys : List ℕ) (v : ℕ) → all_ascii_digits zs ≡ true → v ≡ digits_value_after 10 0 zs → length zs + length ys ≤ 18 → (v + 1) * 10 ^ length ys ≤ 10 ^ 18
second-room zs ys v d e few =
    let low : v + 1 ≤ 10 ^ length zs = omega (arith, value_after-below 0 zs d, e) in
    let product : (v + 1) * 10 ^ length ys ≤ 10 ^ length zs * 10 ^ length ys = mul-le-mul_right (10 ^ length ys) low in
    omega (arith, product, pow-add 10 (length zs) (length ys), pow-le (length zs + length ys) few)

pub together : (xs zs ys : List ℕ) (v : ℕ) (r : Option ℕ) → all_ascii_digits xs ≡ all_ascii_digits zs → digits_value 10 xs ≡ digits_value 10 zs → all_ascii_digits zs ≡ true
    → v ≡ digits_value_after 10 0 zs → (v + 1) * 10 ^ length ys ≤ 10 ^ 18 → SomeIff r (all_ascii_digits ys ≡ true) (digits_value_after 10 v ys)
    → SomeIff r ((all_ascii_digits (xs ++ ys) ≡ true) × (digits_value 10 (xs ++ ys) < 10 ^ 18)) (digits_value 10 (xs ++ ys))
together xs zs ys v r d e all n room h =
    let value : digits_value_after 10 v ys ≡ digits_value 10 (xs ++ ys) = ap (λ m. digits_value_after 10 m ys) (n ∙ sym e) ∙ sym (value_after-append 0 xs ys) in
    SomeIff-same r _ _ _ _
    (λ p. (digits-append xs ys ∙ and (all_ascii_digits xs) (all_ascii_digits ys) (d ∙ all) p, omega (arith, value, room, value_after-below v ys p)))
    (λ q. (both (all_ascii_digits xs) (all_ascii_digits ys) (sym (digits-append xs ys) ∙ q.0)).1)
    value h

pub below : (a b : ℕ) → nat_lt a b ≡ true → a < b
below a b e = grind (arith, nat_tests)

pub is_below : (a b : ℕ) → a < b → nat_lt a b ≡ true
is_below a b e = grind (arith, nat_tests)

-- no more than the first digits after the point are kept
pub kept-drop : (s k : ℕ) (xs : List ℕ) → k ≡ min (length xs) s → drop k xs ≡ drop s xs
kept-drop zero k xs e = let z : k ≡ 0 = omega arith in ap (λ n. drop n xs) z
kept-drop (suc s) k [] e = drop_all k [] (omega arith) ∙ sym (drop_all (suc s) [] (omega arith))
kept-drop (suc s) zero (x ∷ xs) e = absurd (omega arith)
kept-drop (suc s) (suc k) (x ∷ xs) e = kept-drop s k xs (omega arith)

kept-take : (s k : ℕ) (xs : List ℕ) → k ≡ min (length xs) s → take k xs ≡ take s xs
kept-take s k xs e = let m : k ≡ min s (length xs) = omega arith in ap (λ n. take n xs) m ∙ take_min s xs

pub size-kept : (s k : ℕ) (xs ys : List ℕ) → k ≡ min (length ys) s → digits_value 10 (xs ++ take k ys) * 10 ^ (s - k) ≡ size_at s xs ys
size-kept s k xs ys e =
    let m : s - k ≡ s - length ys = omega arith in
    ap (λ l. digits_value 10 (xs ++ l) * 10 ^ (s - k)) (kept-take s k ys e) ∙ ap (λ n. digits_value 10 (xs ++ take s ys) * 10 ^ n) m

-- a text is digits where its first and its other bytes are
parts : (k : ℕ) (ys : List ℕ) → all_ascii_digits ys ≡ all_ascii_digits (take k ys) && all_ascii_digits (drop k ys)
parts k ys = ap all_ascii_digits (sym (take-append-drop k ys)) ∙ digits-append (take k ys) (drop k ys)

pub size-none : (p s k : ℕ) (xs ys : List ℕ) → p ≤ 18 → k ≡ min (length ys) s
    → ((all_ascii_digits (xs ++ take k ys) ≡ true) × (digits_value 10 (xs ++ take k ys) < 10 ^ 18) → ⊥) → IsSize p s xs ys → ⊥
size-none p s k xs ys l e none h =
    let first = (both (all_ascii_digits (take k ys)) (all_ascii_digits (drop k ys)) (sym (parts k ys) ∙ h.1)).0 in
    let fit = both (are_zeros (drop s ys)) (nat_lt (size_at s xs ys) (10 ^ p)) h.2 in
    none (
      digits-append xs (take k ys) ∙ and (all_ascii_digits xs) (all_ascii_digits (take k ys)) h.0 first,
      omega (arith, times-ge (digits_value 10 (xs ++ take k ys)) (10 ^ (s - k)) (ten_pow_pos (s - k)), size-kept s k xs ys e, below (size_at s xs ys) (10 ^ p) fit.1, pow-le p l),
    )

pub size-some : (p s k v : ℕ) (xs ys : List ℕ) (r : Option ℕ) → k ≡ min (length ys) s → all_ascii_digits (xs ++ take k ys) ≡ true → v ≡ digits_value 10 (xs ++ take k ys) → are_zeros (drop k ys) ≡ true
    → SomeIff r (v * 10 ^ (s - k) < 10 ^ p) (v * 10 ^ (s - k)) → SomeIff r (IsSize p s xs ys) (size_at s xs ys)
size-some p s k v xs ys r e d n z h =
    let value : v * 10 ^ (s - k) ≡ size_at s xs ys = ap (λ m. m * 10 ^ (s - k)) n ∙ size-kept s k xs ys e in
    let b = both (all_ascii_digits xs) (all_ascii_digits (take k ys)) (sym (digits-append xs (take k ys)) ∙ d) in
    let rest : are_zeros (drop s ys) ≡ true = ap are_zeros (sym (kept-drop s k ys e)) ∙ z in
    SomeIff-same r _ _ _ _
    (λ l. (
      b.0,
      parts k ys ∙ and (all_ascii_digits (take k ys)) (all_ascii_digits (drop k ys)) b.1 (zeros-digits (drop k ys) z),
      and (are_zeros (drop s ys)) (nat_lt (size_at s xs ys) (10 ^ p)) rest (is_below (size_at s xs ys) (10 ^ p) (omega (arith, l, value))),
    ))
    (λ q. let fit = both (are_zeros (drop s ys)) (nat_lt (size_at s xs ys) (10 ^ p)) q.2 in omega (arith, value, below (size_at s xs ys) (10 ^ p) fit.1))
    value h

pub size-small : (p s : ℕ) (xs ys : List ℕ) (r : Option ℕ) → p ≤ 18 → SomeIff r (IsSize p s xs ys) (size_at s xs ys) → IfSome r (λ n. n < 10 ^ 18)
size-small p s xs ys None l h = tt
size-small p s xs ys (Some n) l h =
    let fit = both (are_zeros (drop s ys)) (nat_lt (size_at s xs ys) (10 ^ p)) h.0.2 in
    omega (arith, h.1, below (size_at s xs ys) (10 ^ p) fit.1, pow-le p l)

-- texts that are no numbers: without a digit before the point, or after it
pub unsigned-empty : (text : List ℕ) → before_point text ≡ [] → is_unsigned_text text ≡ true → ⊥
unsigned-empty text e h =
    let d = (both (are_digits (before_point text)) (if has_point text then are_digits (after_point text) else true) h).0 in
    let n : are_digits (before_point text) ≡ false = ap are_digits e in
    cc

pub unsigned-open : (text : List ℕ) → has_point text ≡ true → after_point text ≡ [] → is_unsigned_text text ≡ true → ⊥
unsigned-open text p e h =
    let d = (both (are_digits (before_point text)) (if has_point text then are_digits (after_point text) else true) h).1 in
    let n : (if has_point text then are_digits (after_point text) else true) ≡ false = rw (p, e) refl in
    cc
