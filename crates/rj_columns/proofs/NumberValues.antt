-- A reading has the value that its text writes.
use Rattle.std.proofs.Common.{◌≡◌, ℕ, ℤ, pos, neg_ℤ, true, false, cond, ◌+◌, ◌*◌, ◌-◌, ◌^◌, min, List, [], ◌∷◌, ◌++◌, take, drop, length, None, Some, append_assoc, refl, sym, ap, ◌∙◌, arith, zero, suc, subst, ◌<◌}
use Rattle.std.specs.Prelude.{◌==◌, nat_lt, unsigned_abs}
use Rattle.std.specs.Char.{digit_value}
use Rattle.std.specs.Str.Parse.{starts_with_minus, without_leading_sign, digits_value, digits_value_after}
use Rattle.std.proofs.Math.Nat.{mul_assoc}
use Rattle.std.proofs.lemmas.List.{take-append-drop, length-drop}
use Rattle.std.proofs.lemmas.Nat.{pow-add}
use Rattle.std.proofs.lemmas.Bool.Decides.{nat_tests}
use Rattle.rj_columns.specs.Numbers.{finer}
use Rattle.rj_columns.specs.NumberOrder.{are_same}
use Rattle.rj_columns.specs.NumbersRead.{after_point, are_zeros, before_point, fits, is_numeric_text, is_unsigned_text, number_in, numeric_of, signed_size, size_at, units_in}
use Rattle.rj_columns.proofs.Shifts.{neg-times}
use Rattle.rj_columns.proofs.NumberOrders.{same-from}
use Rattle.rj_columns.proofs.Digits.{value_after-append}
use Rattle.rj_columns.proofs.NumberSizes.{below, both, kept-drop, size-kept}

zero-value : (c : ℕ) → c == 48 ≡ true → digit_value c ≡ 0
zero-value c e =
    let is : c ≡ 48 = grind (arith, nat_tests) in
    ap digit_value is

-- zeros at the end of a number
zeros-value : (n : ℕ) (zs : List ℕ) → are_zeros zs ≡ true → digits_value_after 10 n zs ≡ n * 10 ^ length zs
zeros-value n [] e = omega arith
zeros-value n (c ∷ cs) e =
    let b = both (c == 48) (are_zeros cs) e in
    let more : 10 ^ (1 + length cs) ≡ 10 * 10 ^ length cs = pow-add 10 1 (length cs) in
    let longer : 1 + length cs ≡ length (c ∷ cs) = omega arith in
    let step : n * 10 + digit_value c ≡ n * 10 = omega (arith, zero-value c b.0) in
    ap (λ m. digits_value_after 10 m cs) step
    ∙ (zeros-value (n * 10) cs b.1
    ∙ (mul_assoc n 10 (10 ^ length cs)
    ∙ ap (λ m. n * m) (sym more ∙ ap (λ m. 10 ^ m) longer)))

-- a size in a scale is the value of all digits in that scale
pub size-value : (s : ℕ) (xs ys : List ℕ) → are_zeros (drop s ys) ≡ true → digits_value 10 (xs ++ ys) * 10 ^ s ≡ size_at s xs ys * 10 ^ length ys
size-value s xs ys z =
    let k = min (length ys) s in
    let v = digits_value 10 (xs ++ take k ys) in
    let zeros : are_zeros (drop k ys) ≡ true = ap are_zeros (kept-drop s k ys refl) ∙ z in
    let all : digits_value 10 (xs ++ ys) ≡ v * 10 ^ length (drop k ys) =
    ap (λ l. digits_value 10 (xs ++ l)) (sym (take-append-drop k ys))
    ∙ (ap (digits_value 10) (sym (append_assoc xs (take k ys) (drop k ys)))
    ∙ (value_after-append 0 (xs ++ take k ys) (drop k ys) ∙ zeros-value v (drop k ys) zeros)) in
    let exponents : length (drop k ys) + s ≡ (s - k) + length ys = omega (arith, length-drop k ys) in
    ap (λ m. m * 10 ^ s) all
    ∙ (mul_assoc v (10 ^ length (drop k ys)) (10 ^ s)
    ∙ (ap (λ m. v * m) (sym (pow-add 10 (length (drop k ys)) s) ∙ (ap (λ n. 10 ^ n) exponents ∙ pow-add 10 (s - k) (length ys)))
    ∙ (sym (mul_assoc v (10 ^ (s - k)) (10 ^ length ys))
    ∙ ap (λ m. m * 10 ^ length ys) (size-kept s k xs ys refl))))

signed-finer : (text : List ℕ) (m n j k : ℕ) → m * 10 ^ j ≡ n * 10 ^ k → finer (signed_size text m) j ≡ finer (signed_size text n) k
signed-finer text m n j k e =
    elim (starts_with_minus text) as (λ b. finer (cond b (neg_ℤ (pos m)) (pos m)) j ≡ finer (cond b (neg_ℤ (pos n)) (pos n)) k)
    [ true ↦ neg-times m (10 ^ j) ∙ (ap (λ x. neg_ℤ (pos x)) e ∙ sym (neg-times n (10 ^ k))) | false ↦ ap pos e ]

numeric-some : (p s : ℕ) (text : List ℕ) (u : ℤ) → Some u ≡ numeric_of p s text → (is_numeric_text p s text ≡ true) × (u ≡ units_in s text)
numeric-some p s text u e =
    elim (is_numeric_text p s text) as (λ b. is_numeric_text p s text ≡ b → Some u ≡ cond b (Some (units_in s text)) None → (is_numeric_text p s text ≡ true) × (u ≡ units_in s text))
    [ true ↦ λ t h. (t, cc) | false ↦ λ t h. cc ] refl e

neg-abs : (n : ℕ) → unsigned_abs (neg_ℤ (pos n)) ≡ n
neg-abs zero = refl
neg-abs (suc n) = refl

signed-abs : (text : List ℕ) (n : ℕ) → unsigned_abs (signed_size text n) ≡ n
signed-abs text n = elim (starts_with_minus text) as (λ b. unsigned_abs (cond b (neg_ℤ (pos n)) (pos n)) ≡ n) [ true ↦ neg-abs n | false ↦ refl ]

pub units_value : (p s : ℕ) (text : List ℕ) (u : ℤ) → Some u ≡ numeric_of p s text → are_same (number_in text) (record { units = u; scale = s }) ≡ true
units_value p s text u e =
    let unsigned = without_leading_sign text in
    let n = numeric-some p s text u e in
    let fit = (both (is_unsigned_text unsigned) (fits p s (before_point unsigned) (after_point unsigned)) n.0).1 in
    let zeros = (both (are_zeros (drop s (after_point unsigned))) (nat_lt (size_at s (before_point unsigned) (after_point unsigned)) (10 ^ p)) fit).0 in
    let same = signed-finer text (digits_value 10 (before_point unsigned ++ after_point unsigned))
    (size_at s (before_point unsigned) (after_point unsigned)) s (length (after_point unsigned)) (size-value s (before_point unsigned) (after_point unsigned) zeros) in
    same-from (number_in text) (record { units = u; scale = s }) (same ∙ ap (λ u. finer u (length (after_point unsigned))) (sym n.1))

pub units-small : (p s : ℕ) (text : List ℕ) (u : ℤ) → Some u ≡ numeric_of p s text → unsigned_abs u < 10 ^ p
units-small p s text u e =
    let unsigned = without_leading_sign text in
    let size = size_at s (before_point unsigned) (after_point unsigned) in
    let n = numeric-some p s text u e in
    let fit = (both (is_unsigned_text unsigned) (fits p s (before_point unsigned) (after_point unsigned)) n.0).1 in
    let low = below size (10 ^ p) (both (are_zeros (drop s (after_point unsigned))) (nat_lt size (10 ^ p)) fit).1 in
    let P : ℕ → Type 0 = λ m. m < 10 ^ p in
    subst P (sym (ap unsigned_abs n.1 ∙ signed-abs text size)) low
