-- Numbers of one digit and of two.
use Rattle.std.proofs.Common.{◌≡◌, ◌≢◌, ◌∙◌, ◌<◌, ◌≤◌, ◌+◌, ◌-◌, ◌*◌, ◌/◌, ◌%◌, ◌^◌, ◌++◌, ◌⊎◌, ◌∷◌, [], ℕ, Bool, List, Option, Some, None, true, inl, inr}
use Rattle.std.proofs.Common.{sym, ap, arith, length, slice_index_or}
use Rattle.std.specs.Prelude.{◌&&◌, IfSome, IfNone, SomeIff}
use Rattle.std.specs.Fmt.{decimal}
use Rattle.std.specs.List.{list_all}
use Rattle.std.proofs.lemmas.Bool.{cases_lt}
use Rattle.std.proofs.lemmas.Fmt.{decimal_digit, decimal_step}

-- a number of one digit, and one of two
pub one_digit : (n : ℕ) → n < 10 → decimal n ≡ (48 + n) ∷ []
one_digit n lt = decimal_digit n lt

pub two_digits : (n : ℕ) → 10 ≤ n → n < 100 → decimal n ≡ (48 + n / 10) ∷ (48 + n % 10) ∷ []
two_digits n more less =
    let tens : n / 10 < 10 = omega arith in
    let fits : n < 2 ^ 64 = omega arith in
    decimal_step n more fits ∙ ap (λ (ds : List ℕ). ds ++ ((48 + n % 10) ∷ [])) (decimal_digit (n / 10) tens)

-- whether it has one digit or two
pub digits_of_small : (n : ℕ) → n < 100 → ((n < 10) × (decimal n ≡ (48 + n) ∷ [])) ⊎ ((10 ≤ n) × (decimal n ≡ (48 + n / 10) ∷ (48 + n % 10) ∷ []))
digits_of_small n less = elim (cases_lt n 10) [
  | inl one ↦ inl (one, one_digit n one)
  | inr more ↦ inr (more, two_digits n more less)
]

-- the digits of a small number pass where each digit does
pub small_pass : (q : ℕ → Bool) → ((d : ℕ) → d < 10 → q (48 + d) ≡ true) → (n : ℕ) → n < 100 → list_all q (decimal n) ≡ true
small_pass q each n less = elim (digits_of_small n less) [
  | inl one ↦ ap (list_all q) one.1 ∙ ap (λ (b : Bool). b && true) (each n one.0)
  | inr two ↦
      let tens : n / 10 < 10 = omega arith in
      let ones : n % 10 < 10 = omega arith in
      ap (list_all q) two.1 ∙ (ap (λ (b : Bool). b && (q (48 + n % 10) && true)) (each (n / 10) tens) ∙ ap (λ (b : Bool). b && true) (each (n % 10) ones))
]

-- one digit, and two
pub one_found : (xs : List ℕ) → length xs ≡ 1 → 48 ≤ slice_index_or xs 0 0 → slice_index_or xs 0 0 ≤ 57 → xs ≡ decimal (slice_index_or xs 0 0 - 48)
one_found [] len low high = absurd (omega arith)
one_found (x ∷ []) len low high =
    let small : x - 48 < 10 = omega arith in
    let same : 48 + (x - 48) ≡ x = omega arith in
    sym (decimal_digit (x - 48) small ∙ ap (λ (d : ℕ). d ∷ []) same)
one_found (x ∷ y ∷ xs) len low high = absurd (omega arith)

pub two_found : (xs : List ℕ) → length xs ≡ 2 → 49 ≤ slice_index_or xs 0 0 → slice_index_or xs 0 0 ≤ 57 → 48 ≤ slice_index_or xs 1 0 → slice_index_or xs 1 0 ≤ 57
    → xs ≡ decimal ((slice_index_or xs 0 0 - 48) * 10 + (slice_index_or xs 1 0 - 48))
two_found [] len low high least most = absurd (omega arith)
two_found (x ∷ []) len low high least most = absurd (omega arith)
two_found (x ∷ y ∷ []) len low high least most =
    let more : 10 ≤ (x - 48) * 10 + (y - 48) = omega arith in
    let less : (x - 48) * 10 + (y - 48) < 100 = omega arith in
    let tens : 48 + ((x - 48) * 10 + (y - 48)) / 10 ≡ x = omega arith in
    let ones : 48 + ((x - 48) * 10 + (y - 48)) % 10 ≡ y = omega arith in
    sym (two_digits _ more less ∙ (ap (λ (d : ℕ). d ∷ (48 + ((x - 48) * 10 + (y - 48)) % 10) ∷ []) tens ∙ ap (λ (d : ℕ). x ∷ d ∷ []) ones))
two_found (x ∷ y ∷ z ∷ xs) len low high least most = absurd (omega arith)

-- the digits of a small number
pub record HasDigits (xs : List ℕ) : Type 0 where
  pub some : 1 ≤ length xs
  pub few : length xs ≤ 2
  pub first : (48 ≤ slice_index_or xs 0 0) × (slice_index_or xs 0 0 ≤ 57)
  pub led : length xs ≡ 2 → (49 ≤ slice_index_or xs 0 0) × (48 ≤ slice_index_or xs 1 0) × (slice_index_or xs 1 0 ≤ 57)

pub has_digits : (xs : List ℕ) (n : ℕ) → n < 100 → xs ≡ decimal n → HasDigits xs
has_digits xs n less is = elim (digits_of_small n less) [
  | inl one ↦ rw (is, one.1) record { some = omega arith; few = omega arith; first = (omega arith, omega (arith, one.0)); led = λ e. absurd (omega (arith, e)) }
  | inr two ↦ rw (is, two.1) record { some = omega arith; few = omega arith; first = (omega arith, omega (arith, less)); led = λ e. (omega (arith, two.0), omega arith, omega arith) }
]

abbrev IsDigit : ℕ → Type 0
IsDigit byte = (48 ≤ byte) × (byte ≤ 57)

pub one_some : (xs : List ℕ) (o : Option ℕ) → length xs ≡ 1 → SomeIff o (IsDigit (slice_index_or xs 0 0)) (slice_index_or xs 0 0 - 48) → IfSome o (λ n. xs ≡ decimal n)
one_some xs None len h = tt
one_some xs (Some n) len h = one_found xs len h.0.0 h.0.1 ∙ ap decimal (sym h.1)

pub one_none : (xs : List ℕ) (o : Option ℕ) → length xs ≡ 1 → SomeIff o (IsDigit (slice_index_or xs 0 0)) (slice_index_or xs 0 0 - 48) → IfNone o ((n : ℕ) → n < 100 → xs ≢ decimal n)
one_none xs None len h = λ n less is. h (has_digits xs n less is).first
one_none xs (Some n) len h = tt

abbrev AreDigits : ℕ → ℕ → Type 0
AreDigits tens ones = (49 ≤ tens) × (tens ≤ 57) × (48 ≤ ones) × (ones ≤ 57)

pub two_some : (xs : List ℕ) (o : Option ℕ) → length xs ≡ 2 → SomeIff o (AreDigits (slice_index_or xs 0 0) (slice_index_or xs 1 0)) ((slice_index_or xs 0 0 - 48) * 10 + (slice_index_or xs 1 0 - 48))
    → IfSome o (λ n. xs ≡ decimal n)
two_some xs None len h = tt
two_some xs (Some n) len h = two_found xs len h.0.0 h.0.1 h.0.2 h.0.3 ∙ ap decimal (sym h.1)

pub two_none : (xs : List ℕ) (o : Option ℕ) → length xs ≡ 2 → SomeIff o (AreDigits (slice_index_or xs 0 0) (slice_index_or xs 1 0)) ((slice_index_or xs 0 0 - 48) * 10 + (slice_index_or xs 1 0 - 48))
    → IfNone o ((n : ℕ) → n < 100 → xs ≢ decimal n)
two_none xs None len h = λ n less is. let d = has_digits xs n less is in h ((d.led len).0, d.first.1, (d.led len).1, (d.led len).2)
two_none xs (Some n) len h = tt

pub too_short : (xs : List ℕ) → length xs < 1 → (n : ℕ) → n < 100 → xs ≢ decimal n
too_short xs l n less is = absurd (omega (arith, l, (has_digits xs n less is).some))

pub too_long : (xs : List ℕ) → 3 ≤ length xs → (n : ℕ) → n < 100 → xs ≢ decimal n
too_long xs l n less is = absurd (omega (arith, l, (has_digits xs n less is).few))
