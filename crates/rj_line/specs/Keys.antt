-- Columns that can be a key of their table, and what is listed of these alone.
use Rattle.std.specs.Prelude.{ℕ, ℤ, ◌≡◌, ◌<◌, ◌↔◌, Bool, true, false, if◌then◌else◌, List, [], ◌∷◌, length, slice_index_or, Option, None, Some, Ok}
use Rattle.std.specs.List.{slice_get}
use Rattle.csv.specs.Reading.{records, strip_bom}
use Rattle.rj_columns.specs.Compare.{are_equal, is_null}
use Rattle.rj_columns.specs.Contents.{Content, nothing, whole, decimal, word}
use Rattle.rj_columns.specs.Tables.{TableValue, cell_of}
use Rattle.rj_columns.specs.declared.cell.ColumnType.{ColumnType}
use Rattle.rj_csv_io.specs.Tables.{records_read}
use Rattle.rj_csv_io.specs.StrictReading.{config_of}
use Rattle.rj_line.specs.Misfits.{IsMisfitOf, IsSuggestionOf}
use Rattle.rj_line.specs.Suggested.{AreKindsOf, column_lines}
use Rattle.rj_line.specs.declared.suggest.suggestion.ListedColumns.{ListedColumns}
use Rattle.rj_line.specs.declared.suggest.suggestion.ListedColumns.TheVariants as listed
use Rattle.rj_line.specs.declared.suggest.suggestion.Misfit.{Misfit}
use Rattle.rj_line.specs.declared.suggest.suggestion.Suggestion.{Suggestion}

-- the units of the number in a cell
abbrev pub units_in : Content → Option ℤ
units_in nothing = None
units_in (whole n) = Some n
units_in (decimal units scale) = Some units
units_in (word s) = None

-- no cell of a column in this many first rows is NULL, and no two of them are equal
pub record IsKeyAbove (t : TableValue) (col rows : ℕ) : Type 0 where
  pub present : (row : ℕ) → row < rows → is_null (cell_of t row col) ≡ false
  pub apart : (row other : ℕ) → row < other → other < rows → are_equal (cell_of t row col) (cell_of t other col) ≡ false

-- a column that can be a key of its table: it meets NOT NULL and UNIQUE (SQL-92 11.7)
abbrev pub IsKeyColumn : TableValue → ℕ → Type 0
IsKeyColumn t col = IsKeyAbove t col (length t.rows)

-- whether each column of a table can be one, in order
pub record AreKeys (t : TableValue) (keys : List Bool) : Type 0 where
  pub count : length keys ≡ length t.types
  pub each : (col : ℕ) (key : Bool) → slice_get keys col ≡ Some key → (key ≡ true) ↔ IsKeyColumn t col

-- of a list with a member for each column, those of the keys
abbrev pub of_keys : {A : Type 0} → List Bool → List A → List A
of_keys [] xs = []
of_keys (key ∷ keys) [] = []
of_keys (key ∷ keys) (x ∷ xs) = if key then x ∷ of_keys keys xs else of_keys keys xs

-- a line for each key
abbrev pub key_lines : List Bool → List (List ℕ) → List ColumnType → List ℕ
key_lines keys names kinds = column_lines (of_keys keys names) (of_keys keys kinds)

-- the cell that keeps a column from being of numbers, told of a key alone
abbrev pub IsKeyMisfit : Bool → TableValue → ℕ → Option Misfit → Type 0
IsKeyMisfit true t col misfit = IsMisfitOf t col misfit
IsKeyMisfit false t col misfit = misfit ≡ None

-- that of each column, in order
pub record AreKeyMisfits (t : TableValue) (keys : List Bool) (misfits : List (Option Misfit)) : Type 0 where
  pub count : length misfits ≡ length t.types
  pub each : (col : ℕ) (misfit : Option Misfit) → slice_get misfits col ≡ Some misfit → IsKeyMisfit (slice_index_or keys col false) t col misfit

-- what records suggest of the columns that can be a key, by the cells that they read as with the
-- suggested types: of the lines and misfits that they suggest, those of these columns
pub record IsKeySuggestionOf (rs : List (List (List ℕ))) (nulls : List (List ℕ)) (s : Suggestion) : Type 0 where
  pub table : TableValue
  pub kinds : List ColumnType
  pub are : AreKindsOf rs nulls table kinds
  pub typed : TableValue
  pub read : records_read rs kinds nulls ≡ Ok typed
  pub keys : List Bool
  pub found : AreKeys typed keys
  pub lines : s.list.items ≡ key_lines keys table.names kinds
  pub misfits : AreKeyMisfits table keys s.misfits.items

-- what records suggest of all columns, or of those that can be a key
abbrev pub IsListingOf : ListedColumns → List (List (List ℕ)) → List (List ℕ) → Suggestion → Type 0
IsListingOf listed.All rs nulls s = IsSuggestionOf rs nulls s
IsListingOf listed.Keys rs nulls s = IsKeySuggestionOf rs nulls s

-- the same of the records of a file, by a delimiter
abbrev pub IsListing : ListedColumns → ℕ → List ℕ → List (List ℕ) → Suggestion → Type 0
IsListing which d bytes nulls s = IsListingOf which (records (config_of d) (strip_bom bytes)) nulls s
