-- Values and the marks of NULLs, which reach no further than the last NULL. Internal: no public contract uses it.
use Rattle.std.specs.Prelude.{ℕ, ◌-◌, List, [], ◌∷◌, ◌++◌, length, replicate, Option, None, Some, Bool, true, false, if◌then◌else◌}

-- the value, or nothing if it is marked
abbrev pub unless : {A : Type 0} → Bool → A → Option A
unless null x = if null then None else Some x

unfoldable pub with_nulls : {A : Type 0} → List A → List Bool → List (Option A)
with_nulls [] nulls = []
with_nulls (x ∷ values) [] = Some x ∷ with_nulls values []
with_nulls (x ∷ values) (n ∷ nulls) = unless n x ∷ with_nulls values nulls

-- the marks of some rows, and a mark at a row after them
abbrev pub marked_at : List Bool → ℕ → List Bool
marked_at nulls row = nulls ++ replicate (row - length nulls) false ++ true ∷ []
