-- In how many inputs of a merge a row has to be to be a row of the whole, and in how many it is.
use Rattle.std.specs.Prelude.{◌≡◌, ◌<◌, ℕ, List, map, filter, All, Contains, Option}
use Rattle.std.specs.List.{count_by, flat_map}
use Rattle.std.specs.Ordering.{is_eq}
use Rattle.rj_shards.specs.declared.merge.copies.Copies.{Copies}
use Rattle.rj_shards.specs.declared.merge.place.Place.{Place}
use Rattle.rj_shards.specs.declared.merge.place.Place.TheVariants.{Pair, LoneAmongPairs, LoneLeft, LoneRight}
use Rattle.rj_shards.specs.declared.merge.place.Placed.{Placed}
use Rattle.rj_shards.specs.Places.{is_up_to, place_order}

-- each row of the whole is in one input
abbrev pub single : Copies
single = record { left = 1; right = 1 }

-- how often a row of this place has to be among the rows of all inputs, if it is one of an input
-- with these copies
abbrev pub needed : Copies → Place → ℕ
needed copies (Pair left right) = 1
needed copies (LoneAmongPairs left) = copies.left
needed copies (LoneLeft left) = copies.left
needed copies (LoneRight right) = copies.right

-- a row of an input, and how often it has to be among the rows of all inputs
pub record Copied (T : Type 0) : Type 0 where
  pub row : Placed T
  pub needed : ℕ

module _ {T : Type 0} where
  abbrev pub copy_of : Copies → Placed T → Copied T
  copy_of copies row = record { row = row; needed = needed copies row.place }

  -- the rows of an input with these copies
  abbrev pub copied : Copies → List (Placed T) → List (Copied T)
  copied copies rows = map (copy_of copies) rows

  -- the rows of all inputs, which are lists with their copies
  abbrev pub copied_rows : List (Copies × List (Placed T)) → List (Copied T)
  copied_rows inputs = flat_map (λ i. copied i.0 i.1) inputs

  -- each input has these copies
  abbrev pub AreSingle : List (Copies × List (Placed T)) → Type 0
  AreSingle inputs = All (λ i. i.0 ≡ single) inputs

  -- the rows up to this place, or none if there is no place
  abbrev pub up_to : Option Place → List (Copied T) → List (Copied T)
  up_to last all = filter (λ c. is_up_to last c.row.place) all

  -- how often a place is among rows
  abbrev pub times : Place → List (Copied T) → ℕ
  times place all = count_by (λ c. is_eq (place_order place c.row.place)) all

  -- a place is among rows as often as one of its rows has to
  abbrev pub IsWhole : List (Copied T) → Place → Type 0
  IsWhole all place = (c : Copied T) × Contains all c × (c.row.place ≡ place) × (times place all ≡ c.needed)

  -- a place is among rows more often than one of its rows has to
  abbrev pub StandsTooOften : List (Copied T) → Place → Type 0
  StandsTooOften all place = (c : Copied T) × Contains all c × (c.row.place ≡ place) × (c.needed < times place all)

  -- rows of one place hold the same
  abbrev pub AreAlike : List (Copied T) → Type 0
  AreAlike all = (c d : Copied T) → Contains all c → Contains all d → c.row.place ≡ d.row.place → c.row.row ≡ d.row.row
