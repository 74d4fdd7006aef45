-- What the bytes of a table's file denote, or their first error.
use Rattle.std.specs.Prelude.{◌≡◌, ◌≢◌, ◌&&◌, if◌then◌else◌, Bool, true, false, List, [], ◌∷◌, ℕ, Result, Ok, Err, Option, Some, None, option_map}
use Rattle.csv.specs.Reading.{records, strip_bom}
use Rattle.rj_columns.specs.Names.{empty_table}
use Rattle.rj_columns.specs.Tables.{TableValue}
use Rattle.rj_columns.specs.declared.refused.BuildRefused.{BuildRefused}
use Rattle.rj_columns.specs.declared.refused.BuildRefused.TheVariants as build
use Rattle.rj_csv_io.specs.Tables.{are_null_texts, is_null_text, records_read}
use Rattle.rj_csv_io.specs.Typed.{null_texts}
use Rattle.rj_csv_io.specs.declared.refused.ReadRefused.{ReadRefused}
use Rattle.rj_csv_io.specs.StrictFaults.{AreAbove, HasFault, row_at}
use Rattle.rj_csv_io.specs.Grammar.{Derives, File, Line, records_of}
use Rattle.rj_csv_io.specs.StrictReading.{body_of, config_of}
use Rattle.rj_csv_io.specs.declared.strict.fault.StrictFault.{StrictFault}
use Rattle.rj_csv_io.specs.declared.strict.fault.StrictFault.TheVariants as strict
use Rattle.rj_csv_io.specs.declared.strict.header.HeaderPlace.TheVariants.{First}
use Rattle.rj_settings.specs.Columns.{name_fault, types_under}
use Rattle.rj_settings.specs.declared.types.entry.TypeEntry.{TypeEntry}
use Rattle.rj_line.specs.Faults.{read_fault}
use Rattle.rj_line.specs.declared.fault.Fault.{Fault}
use Rattle.rj_line.specs.declared.fault.Fault.TheVariants as fault
use Rattle.rj_line.specs.declared.fault.Side.{Side}
use Rattle.rj_line.specs.declared.fault.Side.TheVariants as side
use Rattle.rj_line.specs.declared.request.Request.{Request}
use Rattle.rj_line.specs.declared.request.Strictness.{Strictness}
use Rattle.rj_line.specs.declared.request.Strictness.TheVariants as strictness

-- the error of a text that is not of RFC 4180's grammar
abbrev pub strict_fault : Side → StrictFault → Fault
strict_fault s (strict.OpenQuote row column) = fault.OpenQuote s row column
strict_fault s (strict.AfterQuote row column) = fault.AfterQuote s row column
strict_fault s (strict.BareQuote row column) = fault.BareQuote s row column
strict_fault s (strict.BareReturn row column) = fault.BareReturn s row column
strict_fault s (strict.EmptyLine row) = fault.EmptyLine s row
strict_fault s (strict.CutShort row) = fault.CutShort s row

-- what is known of the types of a table's columns
abbrev pub types_of : Request → Side → List TypeEntry
types_of q side.Left = q.left_types.items
types_of q side.Right = q.right_types.items

-- the byte between the fields of a table's records
abbrev pub delimiter_of : Request → Side → ℕ
delimiter_of q side.Left = q.left_delimiter
delimiter_of q side.Right = q.right_delimiter

-- the texts that stand for NULL in a table
abbrev pub nulls_of : Request → Side → List (List ℕ)
nulls_of q side.Left = null_texts q.left_nulls.items
nulls_of q side.Right = null_texts q.right_nulls.items

-- each text that stands for NULL, in either table or in what is written, may do so
abbrev pub has_lawful_nulls : Request → Bool
has_lawful_nulls q = are_null_texts (nulls_of q side.Left) && are_null_texts (nulls_of q side.Right) && is_null_text q.out_null.now

-- whether a header has no error, or only another number of types
abbrev pub stands : Result TableValue BuildRefused → Bool
stands (Ok t) = true
stands (Err build.TypeCount) = true
stands (Err e) = false

-- the first name in a type list that means no column of the header, or one that an earlier entry
-- names; errors of the header itself come first, except the count of types
abbrev pub type_fault : List TypeEntry → Side → List (List ℕ) → Option Fault
type_fault entries s header =
    if stands (empty_table header (types_under entries header)) then option_map (fault.TypeName s) (name_fault entries header) else None

-- what is denoted, or the error of a side
abbrev pub told : Side → Result TableValue ReadRefused → Result TableValue Fault
told s (Ok t) = Ok t
told s (Err e) = Err (read_fault s e)

abbrev pub told_first : Option Fault → Result TableValue Fault → Result TableValue Fault
told_first (Some f) r = Err f
told_first None r = r

-- what these records denote as a table, by the types that its header's columns have
abbrev pub header_records : Request → Side → List (List (List ℕ)) → Result TableValue Fault
header_records q s [] = told s (records_read [] [] (nulls_of q s))
header_records q s (header ∷ rest) =
    told_first (type_fault (types_of q s) s header)
    (told s (records_read (header ∷ rest) (types_under (types_of q s) header) (nulls_of q s)))

-- the same, except that a NULL text which isn't valid comes first, whichever table it belongs to.
-- Errors of rows come last.
abbrev pub side_records : Request → Side → List (List (List ℕ)) → Result TableValue Fault
side_records q s rs = if has_lawful_nulls q then header_records q s rs else Err fault.BadNull

-- what the bytes of a table's file denote, read by its delimiter
abbrev pub side_read : Request → Side → List ℕ → Result TableValue Fault
side_read q s bytes = side_records q s (records (config_of (delimiter_of q s)) (strip_bom bytes))

-- a reading of these records, or memory runs out
abbrev pub IsReading : Request → Side → List (List (List ℕ)) → Result TableValue Fault → Type 0
IsReading q s records (Ok t) = side_records q s records ≡ Ok t
IsReading q s records (Err f) = f ≢ fault.Memory → side_records q s records ≡ Err f

-- the records that are in lines
abbrev pub records_in_lines : List Line → List (List (List ℕ))
records_in_lines lines = records_of (record { lines = lines; rest = None })

abbrev pub is_no_header : Fault → Bool
is_no_header (fault.NoHeader s) = true
is_no_header _ = false

-- the error of a text that is not of the grammar, given what the records above denote: their first
-- error, or its own, also if there is no header above
abbrev pub fault_below : Side → StrictFault → Result TableValue Fault → Fault
fault_below s f (Ok t) = strict_fault s f
fault_below s f (Err g) = if is_no_header g then strict_fault s f else g

-- the table of the records of the one derivation of a text, by its delimiter
abbrev pub IsStrictTable : Bool → Request → Side → List ℕ → TableValue → Type 0
IsStrictTable full q s bytes t = (file : File) × Derives (delimiter_of q s) First full (body_of First bytes) file × (side_records q s (records_of file) ≡ Ok t)

-- an error of those records, or of a text that has no derivation
pub data IsStrictFault (full : Bool) (q : Request) (s : Side) (bytes : List ℕ) : Fault → Type 0 where
  of_records : (file : File) (f : Fault) → Derives (delimiter_of q s) First full (body_of First bytes) file → side_records q s (records_of file) ≡ Err f
      → IsStrictFault full q s bytes f
  of_text : (f : StrictFault) (lines : List Line) → HasFault (delimiter_of q s) First full (body_of First bytes) f
      → AreAbove (delimiter_of q s) First (body_of First bytes) (row_at f) lines
      → IsStrictFault full q s bytes (fault_below s f (side_records q s (records_in_lines lines)))

-- the table that the bytes of a file denote, read as strictly as this
abbrev pub IsTableBy : Strictness → Request → Side → List ℕ → TableValue → Type 0
IsTableBy strictness.Off q s bytes t = side_read q s bytes ≡ Ok t
IsTableBy strictness.On q s bytes t = IsStrictTable false q s bytes t
IsTableBy strictness.Full q s bytes t = IsStrictTable true q s bytes t

-- the error for which they denote none
abbrev pub IsTableFaultBy : Strictness → Request → Side → List ℕ → Fault → Type 0
IsTableFaultBy strictness.Off q s bytes f = side_read q s bytes ≡ Err f
IsTableFaultBy strictness.On q s bytes f = IsStrictFault false q s bytes f
IsTableFaultBy strictness.Full q s bytes f = IsStrictFault true q s bytes f

-- the table, and the error, of a reading as strict as it is asked for
abbrev pub IsTable : Request → Side → List ℕ → TableValue → Type 0
IsTable q s bytes t = IsTableBy q.strict q s bytes t

abbrev pub IsTableFault : Request → Side → List ℕ → Fault → Type 0
IsTableFault q s bytes f = IsTableFaultBy q.strict q s bytes f
