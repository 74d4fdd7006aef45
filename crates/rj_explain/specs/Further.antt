-- The bad cells of a column below a row, in order, and their lines.
use Rattle.std.specs.Prelude.{ℕ, suc, ◌≡◌, ◌<◌, ◌≤◌, ◌⊎◌, ◌+◌, ◌-◌, Bool, false, true, is_none, List, [], ◌∷◌, ◌++◌, codes, decimal, MatchOption, Option, None, Some, slice_get}
use Rattle.rj_columns.specs.declared.cell.ColumnType.{ColumnType}
use Rattle.rj_csv_io.specs.Typed.{null_texts, read_cell}
use Rattle.rj_line.specs.declared.fault.Fault.{Fault}
use Rattle.rj_line.specs.declared.fault.Fault.TheVariants as fault
use Rattle.rj_line.specs.declared.fault.Side.{Side}
use Rattle.rj_line.specs.declared.fault.Side.TheVariants as side
use Rattle.rj_settings.specs.Columns.{types_under}
use Rattle.rj_explain.specs.Explained.{IsTextOf, delimiter_of, side_file, types_of}
use Rattle.rj_explain.specs.Places.{HasNoRow, IsRow, at_column}
use Rattle.rj_line.specs.Shown.{shown}
use Rattle.rj_explain.specs.declared.further.TypedColumn.{TypedColumn}
use Rattle.rj_explain.specs.declared.inputs.Inputs.{Inputs}

-- the texts that stand for NULL in a side's file
abbrev pub nulls_of : Side → Inputs → List (List ℕ)
nulls_of side.Left inputs = null_texts inputs.request.now.left_nulls.items
nulls_of side.Right inputs = null_texts inputs.request.now.right_nulls.items

-- a cell is neither NULL nor of its column's type; a row without the column has none there
abbrev pub is_bad : List (List ℕ) → ColumnType → Option (List ℕ) → Bool
is_bad nulls kind None = false
is_bad nulls kind (Some value) = is_none (read_cell nulls kind value)

-- the same of a row with these fields
abbrev pub has_bad : TypedColumn → List (List ℕ) → Bool
has_bad c fields = is_bad (null_texts c.nulls.now) c.kind (at_column c.number fields)

-- the record of a row of the column's text
abbrev pub IsRowOf : TypedColumn → ℕ → ℕ → List (List ℕ) → Type 0
IsRowOf c row line fields = IsRow c.delimiter c.text.now row line fields

-- each row from one to before another is there, and has no bad cell
abbrev pub AreGood : TypedColumn → ℕ → ℕ → Type 0
AreGood c from end = (row : ℕ) → from ≤ row → row < end → (line : ℕ) × (fields : List (List ℕ)) × IsRowOf c row line fields × (has_bad c fields ≡ false)

-- the first row with a bad cell, from a row on
pub record IsFirstBadRow (c : TypedColumn) (from row line : ℕ) (fields : List (List ℕ)) : Type 0 where
  pub behind : from ≤ row
  pub above : AreGood c from row
  pub here : IsRowOf c row line fields
  pub bad : has_bad c fields ≡ true

-- there is none
pub record HasNoBad (c : TypedColumn) (from : ℕ) : Type 0 where
  pub end : ℕ
  pub good : AreGood c from end
  pub last : HasNoRow c.delimiter c.text.now end

-- a bad cell, by its row and the line on which that begins
abbrev pub bad_line : ℕ → ℕ → Option (List ℕ) → List ℕ
bad_line row line None = []
bad_line row line (Some value) = codes "  row " ++ (decimal row ++ (codes ", line " ++ (decimal line ++ (codes " of the file: " ++ (shown value ++ 10 ∷ [])))))

abbrev pub more_line : List ℕ
more_line = codes "  .. and more" ++ 10 ∷ []

-- the lines of the first bad cells from a row on, in order: so many of them at most, and whether
-- there are more
pub data AreBadTold (c : TypedColumn) : ℕ → ℕ → List ℕ → Type 0 where
  none : (from most : ℕ) → HasNoBad c from → AreBadTold c from most []
  more : (from row line : ℕ) (fields : List (List ℕ)) → IsFirstBadRow c from row line fields → AreBadTold c from 0 more_line
  next : (from most row line : ℕ) (fields : List (List ℕ)) (rest : List ℕ) → IsFirstBadRow c from row line fields → AreBadTold c (row + 1) most rest
      → AreBadTold c from (suc most) (bad_line row line (at_column c.number fields) ++ rest)

-- the column with this number, counted from 1, of a side's text
pub record IsColumnOf (s : Side) (inputs : Inputs) (text : List ℕ) (number : ℕ) (kind : ColumnType) (c : TypedColumn) : Type 0 where
  pub its_text : c.text.now ≡ text
  pub its_delimiter : c.delimiter ≡ delimiter_of s inputs
  pub its_number : c.number ≡ number
  pub its_kind : c.kind ≡ kind
  pub its_nulls : null_texts c.nulls.now ≡ nulls_of s inputs

-- the bad cells of the column below the row, 19 at most, if the text has a header under which the
-- column has a type
abbrev pub AreToldUnder : Side → ℕ → ℕ → Inputs → List ℕ → List ℕ → List (List ℕ) → Type 0
AreToldUnder s row number inputs text lines names =
    MatchOption (slice_get (types_under (types_of s inputs) names) (number - 1)) (lines ≡ []) (λ kind.
    (c : TypedColumn) × IsColumnOf s inputs text number kind c × AreBadTold c (row + 1) 19 lines)

abbrev pub AreToldIn : Side → ℕ → ℕ → Inputs → List ℕ → List ℕ → Type 0
AreToldIn s row number inputs text lines =
    (HasNoRow (delimiter_of s inputs) text 0 × (lines ≡ []))
    ⊎ ((above : ℕ) × (names : List (List ℕ)) × IsRow (delimiter_of s inputs) text 0 above names × AreToldUnder s row number inputs text lines names)

-- the same of a side's file
abbrev pub AreFurtherTold : Side → ℕ → ℕ → Inputs → List ℕ → Type 0
AreFurtherTold s row number inputs lines = (text : List ℕ) × IsTextOf (side_file s inputs) text × AreToldIn s row number inputs text lines

-- the lines for the further cells of an error of a cell
abbrev pub IsFurtherExplained : Fault → Inputs → List ℕ → Type 0
IsFurtherExplained (fault.BadInteger s row column) inputs lines = AreFurtherTold s row column inputs lines
IsFurtherExplained (fault.BadText s row column) inputs lines = AreFurtherTold s row column inputs lines
IsFurtherExplained _ inputs lines = lines ≡ []
