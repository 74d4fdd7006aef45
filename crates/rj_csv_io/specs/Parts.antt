-- Tables that are read from the texts that one text was cut into.
use Rattle.std.specs.Prelude.{ℕ, ◌+◌, ◌-◌, ◌^◌, ◌==◌, ◌≡◌, ◌≢◌, ◌<◌, ◌≤◌, nat_le, if◌then◌else◌, Bool, true, false, List, [], ◌∷◌, ◌++◌, length, drop, slice_index_or, Result, Ok, Err, All}
use Rattle.rj_columns.specs.declared.cell.ColumnType.{ColumnType}
use Rattle.rj_columns.specs.Tables.{TableValue, rows_of_all}
use Rattle.rj_columns.specs.Names.{empty_table}
use Rattle.rj_csv_io.specs.Cuts.{records_in, records_in_all}
use Rattle.rj_csv_io.specs.Rows.{read_rows}
use Rattle.rj_csv_io.specs.Tables.{read_records}
use Rattle.rj_csv_io.specs.declared.refused.ReadRefused.{ReadRefused}
use Rattle.rj_csv_io.specs.declared.refused.ReadRefused.TheVariants as refused

-- the error at a row, where rows count from the first one, or TooManyRows if there is no such row
abbrev pub at_row : ℕ → ReadRefused → ReadRefused
at_row row e = if nat_le row (2 ^ 31 - 1) then e else refused.TooManyRows

-- an error of a part that has this many rows before it
abbrev pub moved : ℕ → ReadRefused → ReadRefused
moved n refused.NoHeader = refused.NoHeader
moved n (refused.BadName column) = refused.BadName column
moved n (refused.RepeatedName column) = refused.RepeatedName column
moved n refused.TypeCount = refused.TypeCount
moved n (refused.RaggedRow row) = at_row (n + row) (refused.RaggedRow (n + row))
moved n (refused.BadInteger row column) = at_row (n + row) (refused.BadInteger (n + row) column)
moved n (refused.BadText row column) = at_row (n + row) (refused.BadText (n + row) column)
moved n refused.TooManyRows = refused.TooManyRows
moved n refused.TooManyColumns = refused.TooManyColumns
moved n refused.BadNull = refused.BadNull
moved n refused.ReadDevice = refused.ReadDevice
moved n refused.Memory = refused.Memory

-- the records of rows in a text: all, or all but the first one if that is the header
abbrev pub row_records : ℕ → Bool → List ℕ → List (List (List ℕ))
row_records d true text = drop 1 (records_in d text)
row_records d false text = records_in d text

-- the records under the header, which is in the first of the texts
unfoldable pub under_header : ℕ → List (List ℕ) → List (List (List ℕ))
under_header d [] = []
under_header d (text ∷ texts) = drop 1 (records_in d text) ++ records_in_all d texts

-- the result of reading records under a header: the table, or the first error of the header and the
-- records; or memory runs out
abbrev pub IsReading : List (List ℕ) → List ColumnType → List (List ℕ) → List (List (List ℕ)) → Result TableValue ReadRefused → Type 0
IsReading nulls types header records (Ok t) = (empty_table header types ≡ Ok record t { rows = [] }) × (read_rows nulls types [] records ≡ Ok t.rows)
IsReading nulls types header records (Err e) = e ≢ refused.Memory → read_records nulls types (header ∷ records) ≡ Err e

-- each part is the result of reading its text
abbrev pub AreReadings : ℕ → List (List ℕ) → List ColumnType → List (List ℕ) → List (List ℕ) → List (Result TableValue ReadRefused) → Type 0
AreReadings d nulls types header texts parts = (i : ℕ) (r : Result TableValue ReadRefused) → i < length texts
    → IsReading nulls types header (row_records d (i == 0) (slice_index_or texts i [])) (slice_index_or parts i r)

-- tables with the header's columns, whose rows put together are those that the records read as
pub record AreTables (nulls : List (List ℕ)) (types : List ColumnType) (header : List (List ℕ)) (records : List (List (List ℕ)))
    (tables : List TableValue) : Type 0 where
  pub columns : All (λ (t : TableValue). empty_table header types ≡ Ok record t { rows = [] }) tables
  pub rows : read_rows nulls types [] records ≡ Ok (rows_of_all tables)
  pub few : length (rows_of_all tables) ≤ 2 ^ 31 - 1
