-- Rows within a range of places.
use Rattle.std.specs.Prelude.{Bool, true, not, List, [], ◌∷◌, Option, None, Some, filter, if◌then◌else◌}
use Rattle.std.specs.Ordering.{is_lt}
use Rattle.rj_shards.specs.declared.merge.options.MergeOptions.{MergeOptions}
use Rattle.rj_shards.specs.declared.merge.place.Place.{Place}
use Rattle.rj_shards.specs.declared.merge.place.Placed.{Placed}
use Rattle.rj_shards.specs.declared.merge.refused.MergeRefused.{MergeRefused}
use Rattle.rj_shards.specs.Places.{IsAbove, place_order}
use Rattle.rj_shards.specs.Sources.{Reading}

-- a place isn't below the first one of a range, if it has one
abbrev pub is_from : Option Place → Place → Bool
is_from None place = true
is_from (Some first) place = not (is_lt (place_order place first))

-- a place is below the end of a range, if it has one
abbrev pub is_before : Option Place → Place → Bool
is_before None place = true
is_before (Some end) place = is_lt (place_order place end)

module _ {T : Type 0} where
  -- rows before the first one that isn't below the end
  unfoldable pub rows_before : Option Place → List (Placed T) → List (Placed T)
  rows_before end [] = []
  rows_before end (row ∷ rows) = if is_before end row.place then row ∷ rows_before end rows else []

  -- the error after rows, if all of them are below the end
  unfoldable pub fault_before : Option Place → List (Placed T) → Option MergeRefused → Option MergeRefused
  fault_before end [] fault = fault
  fault_before end (row ∷ rows) fault = if is_before end row.place then fault_before end rows fault else None

  -- the rows of a reading within a range, and its error, if it comes before the end
  abbrev pub reading_within : MergeOptions → Reading T → Reading T
  reading_within how r = record {
    rows = filter (λ row. is_from how.from row.place) (rows_before how.to r.rows);
    fault = fault_before how.to r.rows r.fault;
  }

-- the same merge between other places
abbrev pub between : MergeOptions → Option Place → Option Place → MergeOptions
between how from to = record how { from = from; to = to }

-- cuts that rise, the first one above this place, if there is one
abbrev pub AreCuts : Option Place → List Place → Type 0
AreCuts from [] = Unit {0}
AreCuts from (cut ∷ cuts) = IsAbove from cut × AreCuts (Some cut) cuts
