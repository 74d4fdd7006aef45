-- Rows of two tables that are numbered by places which rise, in place of 0, 1, 2 and so on.
use Rattle.std.specs.Prelude.{ℕ, ◌<◌, List, map}
use Rattle.rj_shards.specs.declared.merge.copies.Copies.{Copies}
use Rattle.rj_shards.specs.declared.merge.place.Place.{Place}
use Rattle.rj_shards.specs.declared.merge.place.Place.TheVariants.{Pair, LoneAmongPairs, LoneLeft, LoneRight}
use Rattle.rj_shards.specs.declared.merge.place.Placed.{Placed}

-- later rows have greater numbers
abbrev pub Rises : (ℕ → ℕ) → Type 0
Rises number = (i j : ℕ) → i < j → number i < number j

-- a place by the new numbers of left and right rows
abbrev pub renumbered_place : (ℕ → ℕ) → (ℕ → ℕ) → Place → Place
renumbered_place left right (Pair i j) = Pair (left i) (right j)
renumbered_place left right (LoneAmongPairs i) = LoneAmongPairs (left i)
renumbered_place left right (LoneLeft i) = LoneLeft (left i)
renumbered_place left right (LoneRight j) = LoneRight (right j)

-- a row at its place by the new numbers
abbrev pub renumbered : {T : Type 0} → (ℕ → ℕ) → (ℕ → ℕ) → Placed T → Placed T
renumbered left right row = record { place = renumbered_place left right row.place; row = row.row }

-- rows at their places by the new numbers
abbrev pub all_renumbered : {T : Type 0} → (ℕ → ℕ) → (ℕ → ℕ) → List (Placed T) → List (Placed T)
all_renumbered left right rows = map (renumbered left right) rows

-- inputs of a merge, their rows at their places by the new numbers
abbrev pub inputs_renumbered : {T : Type 0} → (ℕ → ℕ) → (ℕ → ℕ) → List (Copies × List (Placed T)) → List (Copies × List (Placed T))
inputs_renumbered left right inputs = map (λ i. (i.0, all_renumbered left right i.1)) inputs
