-- A whole merge.
use Rattle.std.specs.Prelude.{◌≡◌, List, [], ◌∷◌, Option, None, Some, map, All, Contains}
use Rattle.std.specs.List.{flat_map}
use Rattle.std.specs.List.Sorted.{IsPermutation}
use Rattle.rj_shards.specs.declared.merge.place.Place.{Place}
use Rattle.rj_shards.specs.declared.merge.place.Placed.{Placed}
use Rattle.rj_shards.specs.Copies.{Copied, IsWhole, StandsTooOften}
use Rattle.rj_shards.specs.Places.{IsAbove}

-- each row is above the one before it, the first one above this place, if there is one
abbrev pub RisesFrom : {T : Type 0} → Option Place → List (Placed T) → Type 0
RisesFrom before [] = Unit {0}
RisesFrom before (row ∷ rows) = IsAbove before row.place × RisesFrom (Some row.place) rows

-- a row of this place is among the rows
abbrev pub HasPlace : {T : Type 0} → List (Placed T) → Place → Type 0
HasPlace {T} rows place = (row : Placed T) × Contains rows row × (row.place ≡ place)

-- rows are the merge of copied rows: each is above the one before it; each is one of them, and its place is among them as
-- often as it has to; each such place is that of a row; and none of them occurs more often than it has to
pub record IsMergeOf {T : Type 0} (all : List (Copied T)) (rows : List (Placed T)) : Type 0 where
  pub rises : RisesFrom None rows
  pub among : All (λ row. Contains (map (λ c. c.row) all) row × IsWhole all row.place) rows
  pub each : (place : Place) → IsWhole all place → HasPlace rows place
  pub within : (place : Place) → StandsTooOften all place → ⊥

-- rows are the merge of lists whose rows all are rows of the whole: they are the rows of all lists, and each is above the one
-- before it
pub record IsMerge {T : Type 0} (lists : List (List (Placed T))) (rows : List (Placed T)) : Type 0 where
  pub all : IsPermutation (flat_map (λ l. l) lists) rows
  pub rises : RisesFrom None rows

-- two of the rows have this place
pub record HasTwice {T : Type 0} (rows : List (Placed T)) (place : Place) : Type 0 where
  pub first : Placed T
  pub second : Placed T
  pub rest : List (Placed T)
  pub among : IsPermutation rows (first ∷ second ∷ rest)
  pub first_place : first.place ≡ place
  pub second_place : second.place ≡ place
