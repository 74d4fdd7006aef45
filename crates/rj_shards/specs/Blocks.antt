-- Texts that have to be of RFC 4180's grammar. Each is under the header and begins where a record
-- does.
use Rattle.std.specs.Prelude.{ℕ, ◌+◌, ◌≡◌, Bool, List, None, length}
use Rattle.rj_columns.specs.Contents.{Content}
use Rattle.rj_csv_io.specs.Pieces.{AreRows}
use Rattle.rj_shards.specs.Divisions.{Dividing}
use Rattle.rj_csv_io.specs.StrictFaults.{AreAbove, HasFault, row_at}
use Rattle.rj_csv_io.specs.Grammar.{Derives, File, Line, records_of}
use Rattle.rj_csv_io.specs.declared.strict.header.HeaderPlace.TheVariants.{Above}
use Rattle.rj_csv_io.specs.declared.strict.fault.StrictFault.{StrictFault}
use Rattle.rj_csv_io.specs.declared.strict.fault.StrictFault.TheVariants as fault

-- the same error if this many rows come before
abbrev pub strict_behind : ℕ → StrictFault → StrictFault
strict_behind before (fault.OpenQuote row column) = fault.OpenQuote (before + row) column
strict_behind before (fault.AfterQuote row column) = fault.AfterQuote (before + row) column
strict_behind before (fault.BareQuote row column) = fault.BareQuote (before + row) column
strict_behind before (fault.BareReturn row column) = fault.BareReturn (before + row) column
strict_behind before (fault.EmptyLine row) = fault.EmptyLine (before + row)
strict_behind before (fault.CutShort row) = fault.CutShort (before + row)

-- the records that are in lines
abbrev pub records_in : List Line → List (List (List ℕ))
records_in lines = records_of (record { lines = lines; rest = None })

-- the records of a block's derivation, or those above the place where it stops being derived
pub data StandDerived (delimiter names : ℕ) (full : Bool) (text : List ℕ) : List (List (List ℕ)) → Type 0 where
  in_all : (file : File) → Derives delimiter (Above names) full text file → StandDerived delimiter names full text (records_of file)
  above : (f : StrictFault) (lines : List Line) → HasFault delimiter (Above names) full text f → AreAbove delimiter (Above names) text (row_at f) lines
      → StandDerived delimiter names full text (records_in lines)

-- the place where a block stops being derived, below records that are all rows
pub record IsBrokenAt (d : Dividing) (full : Bool) (text : List ℕ) (before : ℕ) (told : StrictFault) : Type 0 where
  pub at : StrictFault
  pub has : HasFault d.delimiter (Above (length d.types)) full text at
  pub lines : List Line
  pub above : AreAbove d.delimiter (Above (length d.types)) text (row_at at) lines
  pub rows : List (List Content)
  pub read : AreRows d.nulls d.types (records_in lines) rows
  pub is : told ≡ strict_behind before at

-- the first records of the lines of a range, or all its records, as the grammar derives them below
-- this many names
pub data BeginDerived (delimiter names : ℕ) (full : Bool) (text : List ℕ) : List (List (List ℕ)) → Type 0 where
  in_text : (file : File) → Derives delimiter (Above names) full text file → BeginDerived delimiter names full text (records_of file)
  in_lines : (row : ℕ) (lines : List Line) → AreAbove delimiter (Above names) text row lines → BeginDerived delimiter names full text (records_in lines)
