-- The one name of a table, in which a sign may stand.
use Rattle.std.proofs.Common.{◌≡◌, ℕ, List, [], ◌∷◌, length, refl, sym, ap, arith}
use Rattle.std.specs.Prelude.{Option, None, Some, slice_get}
use Rattle.rj_explain.specs.Hints.{separator_in, separator_of}

abbrev value_or : List ℕ → Option (List ℕ) → List ℕ
value_or other None = other
value_or other (Some name) = name

pub one-name : (d : ℕ) (names : List (List ℕ)) (name : List ℕ) → length names ≡ 1 → slice_get names 0 ≡ Some name
    → separator_in d name ≡ separator_of d names
one-name d [] name one first = absurd (omega (arith, one))
one-name d (n ∷ []) name one first = ap (separator_in d) (sym (ap (value_or name) first))
one-name d (n ∷ m ∷ names) name one first = absurd (omega (arith, one))

pub other-names : (d : ℕ) (names : List (List ℕ)) → (length names ≡ 1 → ⊥) → None ≡ separator_of d names
other-names d [] other = refl
other-names d (n ∷ []) other = absurd (other refl)
other-names d (n ∷ m ∷ names) other = refl
