-- The digits of a text and the number that they write.
use Rattle.std.proofs.Common.{◌≡◌, ℕ, suc, true, ◌+◌, ◌-◌, ◌*◌, ◌^◌, ◌<◌, ◌≤◌, List, [], ◌∷◌, ◌++◌, length, refl, ap, ◌∙◌, arith}
use Rattle.std.specs.Char.{digit_value, is_ascii_digit}
use Rattle.std.specs.Str.{all_ascii_digits}
use Rattle.std.specs.Str.Parse.{digits_value_after}
use Rattle.std.proofs.lemmas.Bool.{and_parts}
use Rattle.std.proofs.lemmas.Bool.Decides.{nat_tests}
use Rattle.std.proofs.lemmas.Nat.{pow-add}
use Rattle.std.proofs.Math.Nat.{mul-le-mul_left, mul-le-mul_right, one-le-pow}

ten-more : (k : ℕ) → 10 ^ suc k ≡ 10 ^ k * 10
ten-more k = let s : suc k ≡ k + 1 = omega arith in ap (λ m. 10 ^ m) s ∙ pow-add 10 k 1

pub digit-below : (c : ℕ) → is_ascii_digit c ≡ true → digit_value c ≤ 9
digit-below c e = grind (arith, nat_tests)

-- digits that follow a number write at least the number with as many zeros
pub value_after-least : (n : ℕ) (ds : List ℕ) → n * 10 ^ length ds ≤ digits_value_after 10 n ds
value_after-least n [] = omega arith
value_after-least n (c ∷ cs) =
    let power : n * 10 ^ suc (length cs) ≡ n * (10 ^ length cs * 10) = ap (λ m. n * m) (ten-more (length cs)) in
    omega (arith, power, value_after-least (n * 10 + digit_value c) cs)

-- and less than the next number with as many zeros
pub value_after-below : (n : ℕ) (ds : List ℕ) → all_ascii_digits ds ≡ true → digits_value_after 10 n ds < (n + 1) * 10 ^ length ds
value_after-below n [] e = omega arith
value_after-below n (c ∷ cs) e =
    let b = and_parts (is_ascii_digit c) (all_ascii_digits cs) e in
    let power : (n + 1) * 10 ^ suc (length cs) ≡ (n + 1) * (10 ^ length cs * 10) = ap (λ m. (n + 1) * m) (ten-more (length cs)) in
    let digit : digit_value c * 10 ^ length cs ≤ 9 * 10 ^ length cs = mul-le-mul_right (10 ^ length cs) (digit-below c b.0) in
    omega (arith, power, digit, value_after-below (n * 10 + digit_value c) cs b.1)

-- digits and then more digits
pub value_after-append : (n : ℕ) (xs ys : List ℕ) → digits_value_after 10 n (xs ++ ys) ≡ digits_value_after 10 (digits_value_after 10 n xs) ys
value_after-append n [] ys = refl
value_after-append n (x ∷ xs) ys = value_after-append (n * 10 + digit_value x) xs ys

-- where there is room for the digits from place i on behind a number, there is room for the others behind the number
-- and the first of them
pub room-less : (n d i len : ℕ) → d ≤ 9 → i < len → (n + 1) * 10 ^ (len - i) ≤ 10 ^ 18 → (n * 10 + d + 1) * 10 ^ (len - (i + 1)) ≤ 10 ^ 18
room-less n d i len h inside room =
    let k = len - (i + 1) in
    let more : len - i ≡ suc k = omega arith in
    let power : (n + 1) * 10 ^ (len - i) ≡ (n + 1) * (10 ^ k * 10) = ap (λ m. (n + 1) * 10 ^ m) more ∙ ap (λ m. (n + 1) * m) (ten-more k) in
    let digit : d * 10 ^ k ≤ 9 * 10 ^ k = mul-le-mul_right (10 ^ k) h in
    omega (arith, power, digit, room)

-- and the number and that digit are small
pub room-below : (n d i len : ℕ) → d ≤ 9 → i < len → (n + 1) * 10 ^ (len - i) ≤ 10 ^ 18 → n * 10 + d < 10 ^ 18
room-below n d i len h inside room =
    let some : 1 ≤ 10 ^ (len - (i + 1)) = one-le-pow _ _ (omega arith) in
    let product : (n * 10 + d + 1) * 1 ≤ (n * 10 + d + 1) * 10 ^ (len - (i + 1)) = mul-le-mul_left (n * 10 + d + 1) some in
    omega (arith, product, room-less n d i len h inside room)
