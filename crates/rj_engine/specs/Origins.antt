-- Where each column of a joined table comes from (SQL-92, 7.5).
use Rattle.std.specs.Prelude.{ℕ, ◌==◌, Bool, false, not, List, ◌++◌, map, filter, length, Option, None, Some, slice_index_or, is_some}
use Rattle.std.specs.List.{list_any, range_with_len}
use Rattle.rj_condition.specs.Joins.{pairs_of}
use Rattle.rj_engine.specs.declared.origin.Origin.{Origin}
use Rattle.rj_engine.specs.declared.origin.Origin.TheVariants.{Coalesced, Left, Right}

-- the right column is this one
abbrev pub is_column : ℕ → Option ℕ → Bool
is_column j None = false
is_column j (Some k) = k == j

-- the left columns that aren't join columns
abbrev pub other_lefts : List (Option ℕ) → List ℕ
other_lefts partners = filter (λ i. not (is_some (slice_index_or partners i None))) (range_with_len 0 (length partners))

-- the right columns that aren't join columns
abbrev pub other_rights : List (Option ℕ) → ℕ → List ℕ
other_rights partners width = filter (λ j. not (list_any (is_column j) partners)) (range_with_len 0 width)

-- join columns in the order of the left table, other left columns, other right columns; ON and CROSS have no join columns, so all
-- left columns, then all right ones
unfoldable pub origins_of : List (Option ℕ) → ℕ → List Origin
origins_of partners width =
    map (λ p. Coalesced p.0 p.1) (pairs_of partners) ++ map (λ i. Left i) (other_lefts partners) ++ map (λ j. Right j) (other_rights partners width)
