-- What a field of a place tells.
use Rattle.std.proofs.Common.{◌≡◌, ◌<◌, ◌≤◌, ◌^◌, ◌∙◌, ℕ, zero, suc, List, [], ◌∷◌, length, drop, take, true, false, None, refl, ap, subst, inl, inr, arith}
use Rattle.std.specs.Prelude.{nat_lt, ◌&&◌, slice_index_or}
use Rattle.std.specs.Bool.{Decides}
use Rattle.std.specs.Str.{all_ascii_digits}
use Rattle.std.proofs.lemmas.List.{drop_all, take_all}
use Rattle.std.specs.Str.Parse.{digits_value}
use Rattle.std.proofs.lemmas.Bool.{cases_Bool}
use Rattle.std.proofs.lemmas.Bool.Decides.{Decides-and, Decides-ltb}
use Rattle.std.proofs.lemmas.Str.Parse.{digits_value-take-le}
use Rattle.csv.specs.Records.{field_at}
use Rattle.rj_shards.specs.MergeTexts.{is_number}

pub number-Decides : (bytes : List ℕ) → Decides (is_number bytes) (((0 < length bytes) × (all_ascii_digits bytes ≡ true)) × (digits_value 10 bytes < 2 ^ 64))
number-Decides bytes =
    Decides-and (nat_lt 0 (length bytes) && all_ascii_digits bytes) (nat_lt (digits_value 10 bytes) (2 ^ 64))
    (Decides-and (nat_lt 0 (length bytes)) (all_ascii_digits bytes) (Decides-ltb 0 (length bytes)) (λ e. e, λ e. e))
    (Decides-ltb (digits_value 10 bytes) (2 ^ 64))

-- first bytes that write too much already are those of no number
pub number-over : (bytes : List ℕ) (i : ℕ) → ¬ (digits_value 10 (take i bytes) < 2 ^ 64) → is_number bytes ≡ false
number-over bytes i over =
    let more : digits_value 10 (take i bytes) ≤ digits_value 10 bytes = digits_value-take-le 10 bytes i (omega arith) in
    elim (cases_Bool (is_number bytes)) [ inl holds ↦ let n = (number-Decides bytes).0 holds in absurd (over (omega (arith, more, n.1))) | inr fails ↦ fails ]

-- digits that were read one by one, up to the end
pub number-read : (bytes : List ℕ) (i n : ℕ) → 0 < length bytes → length bytes ≤ i → all_ascii_digits bytes ≡ all_ascii_digits (drop i bytes) → n ≡ digits_value 10 (take i bytes) → n < 2 ^ 64
    → (is_number bytes ≡ true) × (n ≡ digits_value 10 bytes)
number-read bytes i n some end digits value small =
    let d : all_ascii_digits bytes ≡ true = digits ∙ rw (drop_all i bytes end) refl in
    let v : n ≡ digits_value 10 bytes = value ∙ ap (digits_value 10) (take_all i bytes end) in
    ((number-Decides bytes).1 ((some, d), subst (λ k. k < 2 ^ 64) v small), v)

-- a field past the end of a record
pub field-none : (fields : List (List ℕ)) (i : ℕ) → field_at fields i ≡ None → slice_index_or fields i [] ≡ []
unfolding field_at
field-none [] i e = refl
field-none (f ∷ fs) zero e = absurd (cc)
field-none (f ∷ fs) (suc i) e = field-none fs i e
