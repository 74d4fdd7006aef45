-- The first error of records, whatever number its row has, and when a division ends with which
-- error.
use Rattle.std.specs.Prelude.{ℕ, ◌+◌, ◌^◌, ◌==◌, ◌≡◌, ◌≤◌, ◌<◌, ◌⊎◌, if◌then◌else◌, List, [], ◌∷◌, ◌++◌, length, Result, Err}
use Rattle.rj_columns.specs.declared.cell.ColumnType.{ColumnType}
use Rattle.rj_columns.specs.declared.refused.BuildRefused.{BuildRefused}
use Rattle.rj_columns.specs.Contents.{Content}
use Rattle.rj_csv_io.specs.Devices.{after_failure}
use Rattle.rj_csv_io.specs.declared.refused.ReadRefused.{ReadRefused}
use Rattle.rj_csv_io.specs.declared.refused.ReadRefused.TheVariants as read
use Rattle.rj_csv_io.specs.Pieces.{AreRows}
use Rattle.rj_csv_io.specs.Tables.{of_begun}
use Rattle.rj_csv_io.specs.Typed.{read_cells}
use Rattle.rj_shards.specs.declared.division.refused.DivideRefused.{DivideRefused}
use Rattle.rj_shards.specs.declared.division.refused.DivideRefused.TheVariants as refused
use Rattle.rj_shards.specs.Divisions.{Dividing}

-- what a record reads as if it is the row of this number, counted from 1
abbrev pub numbered_row : List (List ℕ) → List ColumnType → ℕ → List (List ℕ) → Result (List Content) ReadRefused
numbered_row nulls types number fields =
    if length fields == length types then read_cells nulls number [] types fields else Err (read.RaggedRow number)

-- the error of the first of these records that is no row, if this many rows come before the records
pub record IsFirstFault (nulls : List (List ℕ)) (types : List ColumnType) (before : ℕ) (records : List (List (List ℕ))) (fault : ReadRefused) : Type 0 where
  pub good : List (List (List ℕ))
  pub rows : List (List Content)
  pub bad : List (List ℕ)
  pub rest : List (List (List ℕ))
  pub order : records ≡ good ++ bad ∷ rest
  pub read : AreRows nulls types good rows
  pub is : numbered_row nulls types (before + length good + 1) bad ≡ Err fault

-- why the records of a piece after this many rows are not divided among this many outputs, unless
-- the device that gives bytes failed: one is no row, there are 2^31 of them or more, or 2^61 with
-- the rows before them
abbrev pub IsFaultBehind : Dividing → ℕ → ℕ → List (List (List ℕ)) → DivideRefused → Type 0
IsFaultBehind d before outputs records (refused.Read f) = IsFirstFault d.nulls d.types before records f
IsFaultBehind d before outputs records refused.TooLong = (2 ^ 31 ≤ length records) ⊎ (2 ^ 61 ≤ before + length records)
IsFaultBehind d before outputs records (refused.WriteDevice p) = p < outputs
IsFaultBehind d before outputs records refused.Memory = Unit {0}
IsFaultBehind d before outputs records e = ⊥

-- the row in an error
abbrev pub row_told : ReadRefused → ℕ
row_told (read.RaggedRow row) = row
row_told (read.BadInteger row column) = row
row_told (read.BadText row column) = row
row_told e = 0

-- the same error if this many rows come before
abbrev pub fault_behind : ℕ → ReadRefused → DivideRefused
fault_behind before (read.RaggedRow row) = refused.Read (read.RaggedRow (before + row))
fault_behind before (read.BadInteger row column) = refused.Read (read.BadInteger (before + row) column)
fault_behind before (read.BadText row column) = refused.Read (read.BadText (before + row) column)
fault_behind before read.TooManyRows = refused.TooLong
fault_behind before read.Memory = refused.Memory
fault_behind before e = refused.Read e

-- an error of what was read, or of memory
abbrev pub IsReadingFault : DivideRefused → Type 0
IsReadingFault (refused.Read f) = Unit {0}
IsReadingFault refused.TooLong = Unit {0}
IsReadingFault refused.Memory = Unit {0}
IsReadingFault e = ⊥

-- an error of the device that gives bytes, or of memory
abbrev pub IsInputFault : DivideRefused → Type 0
IsInputFault refused.ReadDevice = Unit {0}
IsInputFault refused.Memory = Unit {0}
IsInputFault e = ⊥

-- the count of the failures of the device that gives bytes: one more if it failed
abbrev pub reads_after : {T : Type 0} → Result T DivideRefused → ℕ → ℕ
reads_after (Err refused.ReadDevice) count = after_failure count
reads_after result count = count

-- why nothing is divided under a header that doesn't make a table with the types: the reason for
-- that, unless the device that gives bytes fails first or memory runs out
abbrev pub IsHeaderRefusal : BuildRefused → DivideRefused → Type 0
IsHeaderRefusal b (refused.Read f) = f ≡ of_begun b
IsHeaderRefusal b refused.ReadDevice = Unit {0}
IsHeaderRefusal b refused.Memory = Unit {0}
IsHeaderRefusal b e = ⊥

-- any error except one of the device that gives bytes
abbrev pub IsAfterReading : DivideRefused → Type 0
IsAfterReading refused.ReadDevice = ⊥
IsAfterReading e = Unit {0}
