-- What is written is read back.
use Rattle.std.proofs.Common.{◌≡◌, ℕ, zero, suc, ℤ, pos, negsuc, true, false, cond, ◌+◌, ◌*◌, ◌-◌, ◌/◌, ◌%◌, ◌^◌, ◌<◌, ◌≤◌, List, [], ◌∷◌, ◌++◌, drop, length, Some, refl, sym, ap, subst, ◌∙◌, arith}
use Rattle.std.specs.Prelude.{◌==◌, ◌&&◌, nat_lt, unsigned_abs}
use Rattle.std.specs.Char.{digit_value, is_ascii_digit}
use Rattle.std.specs.Fmt.{decimal}
use Rattle.std.specs.Str.{all_ascii_digits}
use Rattle.std.specs.Str.Parse.{starts_with_minus, without_leading_sign, digits_value, digits_value_after}
use Rattle.std.proofs.Math.Nat.{div-le_self, mod-lt, mul_assoc}
use Rattle.rj_columns.proofs.Shifts.{ten_pow_pos}
use Rattle.std.proofs.lemmas.Bool.Decides.{nat_tests}
use Rattle.std.proofs.lemmas.Fmt.{decimal_nonempty, digits_decimal, digits_value-decimal}
use Rattle.std.proofs.lemmas.List.{append-nil, drop_all, length-append, take_all}
use Rattle.std.proofs.lemmas.Nat.{div-add-mod', pow-add}
use Rattle.std.proofs.lemmas.Str.Parse.{IsNumeralModel, numerals_by_value, tells_all_ascii_digits}
use Rattle.rj_columns.specs.NumbersRead.{after_point, are_digits, are_zeros, before_point, fits, has_point, is_unsigned_text, numeric_of, signed_size, size_at}
use Rattle.rj_columns.specs.NumbersWritten.{fraction_text, last_digits, size_text, text_of}
use Rattle.rj_columns.proofs.Digits.{value_after-append}
use Rattle.rj_columns.proofs.NumberSizes.{and, both, digits-append, is_below, pow-le}

own : IsNumeralModel (λ ds. all_ascii_digits ds ≡ true) (digits_value 10)
own = numerals_by_value _ tells_all_ascii_digits

-- the digit that writes a number below 10
digit-is : (d : ℕ) → d < 10 → (is_ascii_digit (48 + d) ≡ true) × (digit_value (48 + d) ≡ d)
digit-is d h = (grind (arith, nat_tests), grind (arith, nat_tests))

last-length : (s n : ℕ) → length (last_digits s n) ≡ s
unfolding last_digits
last-length zero n = refl
last-length (suc s) n = length-append (last_digits s (n / 10)) ((48 + n % 10) ∷ []) ∙ omega (arith, last-length s (n / 10))

last-digits : (s n : ℕ) → all_ascii_digits (last_digits s n) ≡ true
unfolding last_digits
last-digits zero n = refl
last-digits (suc s) n =
    let d = digit-is (n % 10) (omega arith) in
    digits-append (last_digits s (n / 10)) ((48 + n % 10) ∷ []) ∙ and (all_ascii_digits (last_digits s (n / 10))) (is_ascii_digit (48 + n % 10) && true) (last-digits s (n / 10)) (and (is_ascii_digit (48 + n % 10)) true d.0 refl)

-- digits that follow a number, where they are all of theirs
last-value : (s n v : ℕ) → n < 10 ^ s → digits_value_after 10 v (last_digits s n) ≡ v * 10 ^ s + n
unfolding last_digits
last-value zero n v h = omega arith
last-value (suc s) n v h =
    let power : 10 ^ (s + 1) ≡ 10 ^ s * 10 = pow-add 10 s 1 in
    let more : suc s ≡ s + 1 = omega arith in
    let wide : 10 ^ suc s ≡ 10 ^ s * 10 = ap (λ m. 10 ^ m) more ∙ power in
    let d = digit-is (n % 10) (omega arith) in
    let tenth : n / 10 < 10 ^ s = omega (arith, h, wide) in
    let first = last-value s (n / 10) v tenth in
    let product : v * 10 ^ suc s ≡ v * 10 ^ s * 10 = ap (λ m. v * m) wide ∙ sym (mul_assoc v (10 ^ s) 10) in
    value_after-append v (last_digits s (n / 10)) ((48 + n % 10) ∷ [])
    ∙ omega (arith, first, d.1, product)

-- digits end where the point stands
no-point : (c : ℕ) → is_ascii_digit c ≡ true → c == 46 ≡ false
no-point c e = grind (arith, nat_tests)

before-digits : (xs ys : List ℕ) → all_ascii_digits xs ≡ true → before_point (xs ++ 46 ∷ ys) ≡ xs
before-digits [] ys e = refl
before-digits (x ∷ xs) ys e =
    let b = both (is_ascii_digit x) (all_ascii_digits xs) e in
    rw (no-point x b.0) (ap (λ l. x ∷ l) (before-digits xs ys b.1))

after-digits : (xs ys : List ℕ) → all_ascii_digits xs ≡ true → after_point (xs ++ 46 ∷ ys) ≡ ys
after-digits [] ys e = refl
after-digits (x ∷ xs) ys e =
    let b = both (is_ascii_digit x) (all_ascii_digits xs) e in
    rw (no-point x b.0) (after-digits xs ys b.1)

point-digits : (xs ys : List ℕ) → all_ascii_digits xs ≡ true → has_point (xs ++ 46 ∷ ys) ≡ true
point-digits [] ys e = refl
point-digits (x ∷ xs) ys e =
    let b = both (is_ascii_digit x) (all_ascii_digits xs) e in
    rw (no-point x b.0) (point-digits xs ys b.1)

no-fraction : (xs : List ℕ) → all_ascii_digits xs ≡ true → (before_point xs ≡ xs) × (after_point xs ≡ []) × (has_point xs ≡ false)
no-fraction [] e = (refl, refl, refl)
no-fraction (x ∷ xs) e =
    let b = both (is_ascii_digit x) (all_ascii_digits xs) e in
    let (before, after, none) = no-fraction xs b.1 in
    let c = no-point x b.0 in
    (rw c (ap (λ l. x ∷ l) before), rw c after, rw c none)

last-none : (n : ℕ) → last_digits 0 n ≡ []
unfolding last_digits
last-none n = refl

-- a digit is no other byte
other : (b c : ℕ) → is_ascii_digit c ≡ true → b < 48 → c == b ≡ false
other b c e h = grind (arith, nat_tests)

-- a text that begins with a digit has no sign
sign-none : (xs ys : List ℕ) → 0 < length xs → all_ascii_digits xs ≡ true → (starts_with_minus (xs ++ ys) ≡ false) × (without_leading_sign (xs ++ ys) ≡ xs ++ ys)
sign-none [] ys p e = absurd (omega arith)
sign-none (x ∷ xs) ys p e =
    let b = both (is_ascii_digit x) (all_ascii_digits xs) e in
    let minus : x == 45 ≡ false = other 45 x b.0 (omega arith) in
    let plus : x == 43 ≡ false = other 43 x b.0 (omega arith) in
    (minus, rw (minus, plus) refl)

-- the parts of a size's text
record Parts (s n : ℕ) (text : List ℕ) : Type 0 where
  before : before_point text ≡ decimal (n / 10 ^ s)
  after : after_point text ≡ last_digits s (n % 10 ^ s)
  unsigned : is_unsigned_text text ≡ true

digits-some : (xs : List ℕ) → 0 < length xs → all_ascii_digits xs ≡ true → are_digits xs ≡ true
digits-some xs p e = and (nat_lt 0 (length xs)) (all_ascii_digits xs) (is_below 0 (length xs) p) e

size-parts : (s n : ℕ) → n / 10 ^ s < 2 ^ 64 → Parts s n (size_text s n)
size-parts zero n h =
    let whole = decimal (n / 10 ^ zero) in
    let digits = digits_decimal own (n / 10 ^ zero) h in
    let same : size_text zero n ≡ whole = append-nil whole in
    let (before, after, none) = no-fraction whole digits in
    let P : List ℕ → Type 0 = λ t. Parts zero n t in
    subst P (sym same) (record {
      before = before;
      after = after ∙ sym (last-none (n % 10 ^ zero));
      unsigned = rw (before, none) (and (are_digits whole) true (digits-some whole (decimal_nonempty (n / 10 ^ zero) h) digits) refl);
    })
size-parts (suc s) n h =
    let whole = decimal (n / 10 ^ suc s) in
    let rest = last_digits (suc s) (n % 10 ^ suc s) in
    let digits = digits_decimal own (n / 10 ^ suc s) h in
    let some : suc s == 0 ≡ false = grind (arith, nat_tests) in
    let same : size_text (suc s) n ≡ whole ++ 46 ∷ rest = ap (λ b. whole ++ cond b [] (46 ∷ rest)) some in
    let long : 0 < length rest = omega (arith, last-length (suc s) (n % 10 ^ suc s)) in
    let P : List ℕ → Type 0 = λ t. Parts (suc s) n t in
    subst P (sym same) (record {
      before = before-digits whole rest digits;
      after = after-digits whole rest digits;
      unsigned = rw (before-digits whole rest digits, point-digits whole rest digits, after-digits whole rest digits)
          (and (are_digits whole) (are_digits rest) (digits-some whole (decimal_nonempty (n / 10 ^ suc s) h) digits) (digits-some rest long (last-digits (suc s) (n % 10 ^ suc s))));
    })

-- the size that they write
size-back : (s n : ℕ) → n / 10 ^ s < 2 ^ 64 → size_at s (decimal (n / 10 ^ s)) (last_digits s (n % 10 ^ s)) ≡ n
size-back s n h =
    let rest = last_digits s (n % 10 ^ s) in
    let whole = decimal (n / 10 ^ s) in
    let long = last-length s (n % 10 ^ s) in
    let none : s - length rest ≡ 0 = omega (arith, long) in
    let value : digits_value 10 (whole ++ rest) ≡ n =
    value_after-append 0 whole rest
    ∙ (ap (λ v. digits_value_after 10 v rest) (digits_value-decimal own (n / 10 ^ s) h)
    ∙ (last-value s (n % 10 ^ s) (n / 10 ^ s) (mod-lt n (ten_pow_pos s)) ∙ div-add-mod' n (10 ^ s))) in
    ap (λ l. digits_value 10 (whole ++ l) * 10 ^ (s - length rest)) (take_all s rest (omega (arith, long)))
    ∙ (ap (λ m. digits_value 10 (whole ++ rest) * 10 ^ m) none ∙ omega (arith, value))

fits-back : (p s n : ℕ) → n / 10 ^ s < 2 ^ 64 → n < 10 ^ p → fits p s (decimal (n / 10 ^ s)) (last_digits s (n % 10 ^ s)) ≡ true
fits-back p s n h l =
    let rest = last_digits s (n % 10 ^ s) in
    let whole = decimal (n / 10 ^ s) in
    let none : drop s rest ≡ [] = drop_all s rest (omega (arith, last-length s (n % 10 ^ s))) in
    and (are_zeros (drop s rest)) (nat_lt (size_at s whole rest) (10 ^ p)) (ap are_zeros none) (is_below (size_at s whole rest) (10 ^ p) (omega (arith, size-back s n h, l)))

unsigned-back : (p s n : ℕ) (text : List ℕ) → n / 10 ^ s < 2 ^ 64 → n < 10 ^ p → without_leading_sign text ≡ size_text s n → numeric_of p s text ≡ Some (signed_size text n)
unsigned-back p s n text h l e =
    let parts = size-parts s n h in
    rw (e, parts.unsigned, parts.before, parts.after, fits-back p s n h l, size-back s n h) refl

-- what is written is read back
back : (p s : ℕ) (u : ℤ) → unsigned_abs u / 10 ^ s < 2 ^ 64 → unsigned_abs u < 10 ^ p → numeric_of p s (text_of s u) ≡ Some u
back p s (pos n) h l =
    let whole = decimal (n / 10 ^ s) in
    let sign = sign-none whole (fraction_text s (n % 10 ^ s)) (decimal_nonempty (n / 10 ^ s) h) (digits_decimal own (n / 10 ^ s) h) in
    unsigned-back p s n (text_of s (pos n)) h l sign.1 ∙ rw sign.0 refl
back p s (negsuc n) h l = unsigned-back p s (suc n) (text_of s (negsuc n)) h l refl

pub read_back : (p s : ℕ) (u : ℤ) (text : List ℕ) → text ≡ text_of s u → p ≤ 18 → unsigned_abs u < 10 ^ p → numeric_of p s text ≡ Some u
read_back p s u text e m l =
    let small : unsigned_abs u / 10 ^ s ≤ unsigned_abs u = div-le_self (unsigned_abs u) (10 ^ s) in
    ap (numeric_of p s) e ∙ back p s u (omega (arith, small, l, pow-le p m)) l

pub written_back : (p s : ℕ) (u : ℤ) → p ≤ 18 → unsigned_abs u < 10 ^ p → numeric_of p s (text_of s u) ≡ Some u
written_back p s u m l = read_back p s u (text_of s u) refl m l
