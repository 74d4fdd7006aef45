-- The digits of numbers.
use Rattle.std.proofs.Common.{◌≡◌, ℕ, zero, suc, ◌+◌, ◌*◌, ◌-◌, ◌/◌, ◌%◌, ◌^◌, ◌<◌, ◌≤◌, List, [], ◌∷◌, ◌++◌, drop, length, set, append_assoc, refl, sym, ap, ◌∙◌, inl, inr, arith}
use Rattle.std.proofs.lemmas.Bool.Decides.{nat_tests}
use Rattle.std.specs.Prelude.{◌==◌, cond, false, ◌⊎◌, ℤ, pos, negsuc, ◌≤ℤ◌, ◌<ℤ◌}
use Rattle.rj_columns.proofs.Shifts.{ten_pow_pos}
use Rattle.std.specs.Fmt.{decimal, signed_decimal}
use Rattle.std.proofs.lemmas.Bool.{cases_lt}
use Rattle.std.proofs.Math.Arith.{mod-mul}
use Rattle.std.proofs.Math.Nat.{div-div-eq-div-mul, div-lt_iff_lt-mul, pow-le-pow_right}
use Rattle.std.proofs.lemmas.Nat.{pow-add}
use Rattle.std.proofs.lemmas.List.{append-nil, drop-set, drop_all}
use Rattle.std.proofs.lemmas.Fmt.{decimal_digit, decimal_step_wide}
use Rattle.rj_columns.specs.NumbersWritten.{fraction_text, last_digits, text_of}

-- the digits that are still to be written before others
abbrev pub digits_left : ℕ → List ℕ
digits_left zero = []
digits_left (suc n) = decimal (suc n)

left-some : (n : ℕ) → 0 < n → digits_left n ≡ decimal n
left-some zero p = absurd (omega arith)
left-some (suc n) p = refl

small-or-more : (n : ℕ) → (n < 10) ⊎ (10 ≤ n)
small-or-more n = cases_lt n 10

-- the last digit of a number, and those before it
pub decimal-left : (n : ℕ) → n < 10 ^ 64 → decimal n ≡ digits_left (n / 10) ++ (48 + n % 10) ∷ []
decimal-left n h = elim (small-or-more n) [
  | inl l ↦
      let none : n / 10 ≡ 0 = omega arith in
      let same : n % 10 ≡ n = omega arith in
      decimal_digit n l ∙ rw (none, same) refl
  | inr m ↦
      let some : 0 < n / 10 = omega arith in
      decimal_step_wide n m h ∙ ap (λ ds. ds ++ (48 + n % 10) ∷ []) (sym (left-some (n / 10) some))
]

pub digits-left : (n : ℕ) → 0 < n → n < 10 ^ 64 → digits_left n ≡ digits_left (n / 10) ++ (48 + n % 10) ∷ []
digits-left n p h = left-some n p ∙ decimal-left n h

pub digits-step : (k j n : ℕ) → k ≡ suc j → last_digits k n ≡ last_digits j (n / 10) ++ (48 + n % 10) ∷ []
unfolding last_digits
digits-step k j n e = ap (λ m. last_digits m n) e

-- one more digit before those that are written
pub written : (start ds more : List ℕ) (at next place d : ℕ) (bytes : List ℕ) → at ≡ suc next → place ≡ next → next < length bytes
    → ds ≡ more ++ d ∷ [] → start ≡ ds ++ drop at bytes → start ≡ more ++ drop next (set bytes place d)
written start ds more at next place d bytes e f l g h =
    let n : at ≡ next + 1 = omega arith in
    h ∙ (ap (λ xs. xs ++ drop at bytes) g
    ∙ (ap (λ m. (more ++ d ∷ []) ++ drop m bytes) n
    ∙ (append_assoc more (d ∷ []) (drop (next + 1) bytes)
    ∙ (ap (λ xs. more ++ xs) (sym (drop-set bytes next d l))
    ∙ ap (λ m. more ++ drop next (set bytes m d)) (sym f)))))

-- a tenth needs a place less
pub tenth-room : (n k j : ℕ) → k ≡ suc j → n < 10 ^ k → n / 10 < 10 ^ j
tenth-room n k j e h =
    let p : 10 ^ k ≡ 10 ^ j * 10 = ap (λ m. 10 ^ m) e ∙ (let s : suc j ≡ j + 1 = omega arith in ap (λ m. 10 ^ m) s ∙ pow-add 10 j 1) in
    (div-lt_iff_lt-mul (omega arith)).1 (omega (arith, h, p))

pub digits-end : (start : List ℕ) (k n at place : ℕ) (bytes : List ℕ) → k ≡ 0 → at ≡ place → start ≡ last_digits k n ++ drop at bytes → drop place bytes ≡ start
unfolding last_digits
digits-end start k n at place bytes e f h =
    sym (h ∙ (ap (λ m. last_digits m n ++ drop at bytes) e ∙ ap (λ m. drop m bytes) f))

-- before the digits after the point there is room for what stands before it, in a number of at most 2^127
pub whole-room : (n s e : ℕ) → n ≤ 2 ^ 127 → 257 ≤ e + s → 1 ≤ e → n / 10 ^ s < 10 ^ (e - 1)
whole-room n s e small room some =
    let more : 39 ≤ (e - 1) + s = omega arith in
    let ten : 0 < 10 = omega arith in
    let digits : 10 ^ 39 ≤ 10 ^ ((e - 1) + s) = pow-le-pow_right ten more in
    (div-lt_iff_lt-mul (ten_pow_pos s)).1 (omega (arith, digits, pow-add 10 (e - 1) s))

-- what is not 0 has a digit, and what is 10 or more has two
pub more-room : (n k : ℕ) → 0 < n → n < 10 ^ k → 1 ≤ k
more-room n zero p h = absurd (omega arith)
more-room n (suc k) p h = omega arith

pub two-room : (n k : ℕ) → 10 ≤ n → n < 10 ^ k → 2 ≤ k
two-room n zero p h = absurd (omega arith)
two-room n (suc zero) p h = absurd (omega arith)
two-room n (suc (suc k)) p h = omega arith

-- the last digits are those of the number that they write
pub digits-rest : (k n : ℕ) → last_digits k (n % 10 ^ k) ≡ last_digits k n
unfolding last_digits
digits-rest zero n = refl
digits-rest (suc k) n =
    let more : 10 ^ suc k ≡ 10 ^ k * 10 = (let s : suc k ≡ k + 1 = omega arith in ap (λ m. 10 ^ m) s ∙ pow-add 10 k 1) in
    let split : n % 10 ^ suc k ≡ ((n / 10) % 10 ^ k) * 10 + n % 10 = ap (λ m. n % m) more ∙ mod-mul n (ten_pow_pos k) (omega arith) in
    let tenth : (n % 10 ^ suc k) / 10 ≡ (n / 10) % 10 ^ k = omega (arith, split) in
    let last : (n % 10 ^ suc k) % 10 ≡ n % 10 = omega (arith, split) in
    ap (λ m. last_digits k m ++ (48 + (n % 10 ^ suc k) % 10) ∷ []) tenth
    ∙ (ap (λ ds. ds ++ (48 + (n % 10 ^ suc k) % 10) ∷ []) (digits-rest k (n / 10))
    ∙ ap (λ m. last_digits k (n / 10) ++ (48 + m) ∷ []) last)

-- a number without one digit more
pub tenth-more : (n k : ℕ) → (n / 10 ^ k) / 10 ≡ n / 10 ^ (k + 1)
tenth-more n k = div-div-eq-div-mul n (10 ^ k) 10 ∙ ap (λ m. n / m) (sym (pow-add 10 k 1))

-- the point and what follows it, at the end of the bytes
pub fraction-none : (s n : ℕ) (bytes : List ℕ) → s ≡ 0 → length bytes ≤ 258 → drop 258 bytes ≡ fraction_text s n
fraction-none s n bytes e h = rw e (drop_all 258 bytes h)

positive-next : (s place : ℕ) → (s ≡ 0 → ⊥) → place ≡ 257 - s → s ≤ 255 → place + 1 ≡ 258 - s
positive-next zero place some f l = absurd (some refl)
positive-next (suc s) place some f l = omega arith

pub fraction-some : (s n at place : ℕ) (old bytes : List ℕ) → (s ≡ 0 → ⊥) → at ≡ 257 - s → place ≡ 257 - s → s ≤ 255 → length old ≤ 258 → length bytes ≡ 258
    → drop (258 - s) bytes ≡ last_digits s n ++ drop 258 old → drop at (set bytes place 46) ≡ fraction_text s n
fraction-some s n at place old bytes some e f l m q h =
    let some_digits : s == 0 ≡ false = grind (arith, nat_tests) in
    let next : place + 1 ≡ 258 - s = positive-next s place some f l in
    let same : at ≡ place = omega arith in
    let inside : place < length bytes = omega arith in
    ap (λ i. drop i (set bytes place 46)) same
    ∙ (drop-set bytes place 46 inside
    ∙ (ap (λ xs. 46 ∷ xs) (ap (λ i. drop i bytes) next ∙ (h ∙ (ap (λ xs. last_digits s n ++ xs) (drop_all 258 old m) ∙ append-nil (last_digits s n))))
    ∙ sym (ap (λ b. cond b [] (46 ∷ last_digits s n)) some_digits)))

-- in scale 0 the text is that of a whole number
pub text-whole : (u : ℤ) → text_of 0 u ≡ signed_decimal u
text-whole (pos n) = let same : n / 1 ≡ n = omega arith in ap (λ m. decimal m ++ []) same ∙ append-nil (decimal n)
text-whole (negsuc n) = let same : suc n / 1 ≡ suc n = omega arith in ap (λ xs. 45 ∷ xs) (ap (λ m. decimal m ++ []) same ∙ append-nil (decimal (suc n)))
