-- When a text is an integer, and where a number ends.
use Rattle.std.proofs.Common.{◌≡◌, ◌<◌, ◌≤◌, ◌+◌, ℕ, ℤ, pos, negsuc, zero, suc, List, [], ◌∷◌, length, take, true, false, Bool, cond, Some, None, Result, Ok, Err, ap, sym, ◌∙◌, arith, inl, inr, w64, subst, ◌^◌}
use Rattle.std.specs.Prelude.{nat_lt, ◌&&◌, IsUtf8}
use Rattle.std.specs.Bool.{Decides}
use Rattle.std.specs.List.{prefix_len}
use Rattle.std.specs.Result.{OkIff}
use Rattle.std.specs.Char.{is_ascii_digit}
use Rattle.std.specs.Str.{IsAscii, IsCharBoundary, all_ascii_digits}
use Rattle.std.specs.Str.Parse.{IsNumeral, AllDigits, ParsesSigned, without_leading_sign, signed_digits_value}
use Rattle.std.proofs.lemmas.Bool.{ltb-true, lt-ltb, cases_Bool}
use Rattle.std.proofs.lemmas.Bool.Decides.{Decides-and, Decides-ltb, nat_tests}
use Rattle.std.proofs.lemmas.Str.Parse.{numerals_by_value, tells_all_ascii_digits}
use Rattle.std.proofs.lemmas.List.Sums.{prefix_len-le-length}
use mir.Val.{SFits}
use Rattle.std.proofs.Math.Facts.{to_z-of_z}
use mir.Val.{to_z, of_z}
use Rattle.rj_condition.specs.Tokens.{begins, is_name_byte}
use Rattle.rj_condition.specs.Internal.Scanning.{fits_word, is_integer, judged, number_len, is_sign_of_number}
use Rattle.rj_condition.proofs.Runs.{run_ascii, cut_behind}

pub fits-Decides : (z : ℤ) → Decides (fits_word z) (SFits w64 z)
fits-Decides (pos n) = (λ e. record { sfits = ltb-true n (2 ^ 63) e }, λ h. lt-ltb n (2 ^ 63) h.sfits)
fits-Decides (negsuc n) = (λ e. record { sfits = ltb-true n (2 ^ 63) e }, λ h. lt-ltb n (2 ^ 63) h.sfits)

pub digits-Decides : (ds : List ℕ) → Decides (all_ascii_digits ds) (AllDigits 10 ds)
digits-Decides ds =
    let own = numerals_by_value (λ ds. all_ascii_digits ds ≡ true) tells_all_ascii_digits in
    (own.to ds, own.from ds)

pub integer-Decides : (w : List ℕ) → Decides (is_integer w) (IsNumeral 10 (without_leading_sign w) × SFits w64 (signed_digits_value 10 w))
unfolding is_integer
integer-Decides w =
    let ds = without_leading_sign w in
    Decides-and (nat_lt 0 (length ds) && all_ascii_digits ds) (fits_word (signed_digits_value 10 w))
    (Decides-and (nat_lt 0 (length ds)) (all_ascii_digits ds) (Decides-ltb 0 (length ds)) (digits-Decides ds))
    (fits-Decides (signed_digits_value 10 w))

-- what `parse` says at a number and at an error
pub parsed-ok : {E : Type 0} → (w : List ℕ) (r : Result ℤ E) (n : ℤ) → ParsesSigned w64 10 w r → r ≡ Ok n → (is_integer w ≡ true) × (n ≡ signed_digits_value 10 w) × SFits w64 n
parsed-ok {E} w r n h e =
    let P : Result ℤ E → Type 0 = λ r. OkIff r (IsNumeral 10 (without_leading_sign w) × SFits w64 (signed_digits_value 10 w)) (signed_digits_value 10 w) in
    let at = subst P e h in
    ((integer-Decides w).1 at.0, at.1, rw at.1 at.0.1)

pub parsed-err : {E : Type 0} → (w : List ℕ) (r : Result ℤ E) (x : E) → ParsesSigned w64 10 w r → r ≡ Err x → is_integer w ≡ false
parsed-err {E} w r x h e =
    let P : Result ℤ E → Type 0 = λ r. OkIff r (IsNumeral 10 (without_leading_sign w) × SFits w64 (signed_digits_value 10 w)) (signed_digits_value 10 w) in
    let at = subst P e h in
    elim (cases_Bool (is_integer w)) [ inl holds ↦ absurd (at ((integer-Decides w).0 holds)) | inr fails ↦ fails ]

-- the number that a word is
judged_of : (w rest : List ℕ) (b : Bool) (a : Bool) → b ≡ begins is_name_byte rest → is_integer w ≡ a → judged w rest ≡ cond b None (cond a (Some (signed_digits_value 10 w, rest)) None)
judged_of w rest b a e f = ap (λ c. cond c None (cond (is_integer w) (Some (signed_digits_value 10 w, rest)) None)) (sym e)
    ∙ ap (λ c. cond b None (cond c (Some (signed_digits_value 10 w, rest)) None)) f

pub integer_found : {E : Type 0} → (w rest : List ℕ) (r : Result ℤ E) (n : ℤ) → false ≡ begins is_name_byte rest → ParsesSigned w64 10 w r → r ≡ Ok n
    → Some (to_z w64 (of_z w64 n), rest) ≡ judged w rest
integer_found {E} w rest r n e h f =
    let p = parsed-ok w r n h f in
    let fits : SFits w64 n = p.2 in
    ap (λ (z : ℤ). Some (z, rest)) (to_z-of_z fits ∙ p.1) ∙ sym (judged_of w rest false true e p.0)

pub integer_not_found : {E : Type 0} → (w rest : List ℕ) (r : Result ℤ E) (x : E) → false ≡ begins is_name_byte rest → ParsesSigned w64 10 w r → r ≡ Err x → None ≡ judged w rest
integer_not_found {E} w rest r x e h f = sym (judged_of w rest false false e (parsed-err w r x h f))

-- a text may be cut behind a number
digit_low : (b : ℕ) → is_ascii_digit b ≡ true → b < 128
digit_low b e = grind (arith, nat_tests)

sign_low : (b : ℕ) → is_sign_of_number b ≡ true → b < 128
sign_low b e = grind (arith, nat_tests)

number_ascii : (bs : List ℕ) → IsAscii (take (number_len bs) bs) × (number_len bs ≤ length bs)
unfolding number_len
number_ascii [] = (λ i. omega arith, omega arith)
number_ascii (b ∷ bs) = elim (cases_Bool (is_sign_of_number b)) as (λ v. IsAscii (take (number_len (b ∷ bs)) (b ∷ bs)) × (number_len (b ∷ bs) ≤ length (b ∷ bs))) [
  | inl h ↦
      let n = prefix_len is_ascii_digit bs in
      let len : number_len (b ∷ bs) ≡ suc n = ap (λ c. cond c (1 + n) (prefix_len is_ascii_digit (b ∷ bs))) h ∙ one n in
      let P : ℕ → Type 0 = λ k. IsAscii (take k (b ∷ bs)) × (k ≤ length (b ∷ bs)) in
      subst P (sym len) (first b (take n bs) (sign_low b h) (run_ascii is_ascii_digit digit_low bs), omega (arith, prefix_len-le-length is_ascii_digit bs))
  | inr h ↦
      let len : number_len (b ∷ bs) ≡ prefix_len is_ascii_digit (b ∷ bs) = ap (λ c. cond c (1 + prefix_len is_ascii_digit bs) (prefix_len is_ascii_digit (b ∷ bs))) h in
      let P : ℕ → Type 0 = λ k. IsAscii (take k (b ∷ bs)) × (k ≤ length (b ∷ bs)) in
      subst P (sym len) (run_ascii is_ascii_digit digit_low (b ∷ bs), prefix_len-le-length is_ascii_digit (b ∷ bs))
]
  where
    one : (n : ℕ) → 1 + n ≡ suc n
    one n = omega arith

    first : (b : ℕ) (xs : List ℕ) → b < 128 → IsAscii xs → IsAscii (b ∷ xs)
    first b xs low h zero = low
    first b xs low h (suc i) = h i

pub cut_number : (bs text : List ℕ) (n : ℕ) → bs ≡ text → n ≡ number_len bs → IsUtf8 text → IsCharBoundary text n
cut_number bs text n same len u =
    let P : ℕ → Type 0 = IsCharBoundary text in
    subst P (sym (len ∙ ap number_len same)) (cut_behind text (number_len text) u (number_ascii text).1 (number_ascii text).0)

-- and behind the digits of a fraction
pub cut_digits : (bs text : List ℕ) (n : ℕ) → bs ≡ text → n ≡ prefix_len is_ascii_digit bs → IsUtf8 text → IsCharBoundary text n
cut_digits bs text n same len u =
    let P : ℕ → Type 0 = IsCharBoundary text in
    subst P (sym (len ∙ ap (prefix_len is_ascii_digit) same))
    (cut_behind text (prefix_len is_ascii_digit text) u (prefix_len-le-length is_ascii_digit text) (run_ascii is_ascii_digit digit_low text))
