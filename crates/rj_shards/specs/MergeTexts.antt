-- The rows of a text of placed rows, and the first error in it.
use Rattle.std.specs.Prelude.{ℕ, ◌+◌, ◌^◌, ◌==◌, ◌||◌, ◌&&◌, nat_lt, if◌then◌else◌, Bool, true, List, [], ◌∷◌, length, slice_index_or, Option, None, Some, Result, Ok, Err}
use Rattle.std.specs.Ordering.{is_lt}
use Rattle.std.specs.Str.{all_ascii_digits, bytes_eq}
use Rattle.std.specs.Str.Parse.{digits_value}
use Rattle.rj_settings.specs.declared.choice.RowOrder.{RowOrder}
use Rattle.rj_shards.specs.declared.merge.columns.Columns.{Columns}
use Rattle.rj_shards.specs.declared.merge.options.MergeOptions.{MergeOptions}
use Rattle.rj_shards.specs.declared.merge.place.Place.{Place}
use Rattle.rj_shards.specs.declared.merge.place.Place.TheVariants as place
use Rattle.rj_shards.specs.declared.merge.place.Placed.{Placed}
use Rattle.rj_shards.specs.declared.merge.refused.MergeRefused.{MergeRefused}
use Rattle.rj_shards.specs.declared.merge.refused.MergeRefused.TheVariants as refused
use Rattle.rj_shards.specs.Places.{lone_left_place, place_order}
use Rattle.rj_shards.specs.Sources.{Reading}

-- one or more decimal digits, without a sign, of a number of 64 bits
abbrev pub is_number : List ℕ → Bool
is_number field = nat_lt 0 (length field) && all_ascii_digits field && nat_lt (digits_value 10 field) (2 ^ 64)

-- the content of a field of a place: no number if it is NULL, or a number
abbrev pub number_of : List ℕ → List ℕ → Option (Option ℕ)
number_of null field = if bytes_eq field null then Some None else if is_number field then Some (Some (digits_value 10 field)) else None

-- the place that its two fields give in this order, or the error of its row
abbrev pub place_of : RowOrder → ℕ → ℕ → Option (Option ℕ) → Option (Option ℕ) → Result Place MergeRefused
place_of order input row None right = Err (refused.BadPlace input row)
place_of order input row (Some left) None = Err (refused.BadPlace input row)
place_of order input row (Some None) (Some None) = Err (refused.NoPlace input row)
place_of order input row (Some None) (Some (Some right)) = Ok (place.LoneRight right)
place_of order input row (Some (Some left)) (Some None) = Ok (lone_left_place order left)
place_of order input row (Some (Some left)) (Some (Some right)) = Ok (place.Pair left right)

-- whether a place is above another one, if there is that one
abbrev pub is_above : Option Place → Place → Bool
is_above None p = true
is_above (Some before) p = is_lt (place_order before p)

-- the fields of a record from this one on, without the two of its place
unfoldable pub others_from : Columns → ℕ → List (List ℕ) → List (List ℕ)
others_from columns i [] = []
others_from columns i (field ∷ fields) =
    if (i == columns.left) || (i == columns.right) then others_from columns (i + 1) fields else field ∷ others_from columns (i + 1) fields

-- the fields of a record without those of its place
abbrev pub others : Columns → List (List ℕ) → List (List ℕ)
others columns fields = others_from columns 0 fields

-- the place in a record
abbrev pub place_in : MergeOptions → Columns → ℕ → ℕ → List (List ℕ) → Result Place MergeRefused
place_in how columns input row fields =
    place_of how.order input row (number_of how.null.now (slice_index_or fields columns.left [])) (number_of how.null.now (slice_index_or fields columns.right []))

-- the row of this place after a row of that place, if there is one
abbrev pub in_order : ℕ → ℕ → Option Place → List (List ℕ) → Result Place MergeRefused → Result (Placed (List (List ℕ))) MergeRefused
in_order input row before fields (Err e) = Err e
in_order input row before fields (Ok p) = if is_above before p then Ok record { place = p; row = fields } else Err (refused.NotInOrder input row)

-- the row that a record is, or its error
abbrev pub read_row : MergeOptions → Columns → ℕ → ℕ → Option Place → List (List ℕ) → Result (Placed (List (List ℕ))) MergeRefused
read_row how columns input row before fields =
    if length fields == columns.width then in_order input row before (others columns fields) (place_in how columns input row fields)
    else Err (refused.RaggedRow input row)

-- a row before a reading, or its error
abbrev pub reading_then : {T : Type 0} → Result (Placed T) MergeRefused → (Placed T → Reading T) → Reading T
reading_then (Err e) more = record { rows = []; fault = Some e }
reading_then (Ok p) more = record { rows = p ∷ (more p).rows; fault = (more p).fault }

-- the rows of records after this many others, the last of which has this place, and the first error
unfoldable pub read_rows : MergeOptions → Columns → ℕ → ℕ → Option Place → List (List (List ℕ)) → Reading (List (List ℕ))
read_rows how columns input before last [] = record { rows = []; fault = None }
read_rows how columns input before last (r ∷ records) =
    reading_then (read_row how columns input (before + 1) last r) (λ p. read_rows how columns input (before + 1) (Some p.place) records)
