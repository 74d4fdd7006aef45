-- What a file suggests if its text has to be of RFC 4180's grammar.
use Rattle.std.specs.Prelude.{ℕ, Bool, List, Option, None, Some, option_map}
use Rattle.std.specs.Result.{result_err}
use Rattle.rj_line.specs.Faults.{read_fault}
use Rattle.rj_line.specs.declared.fault.Fault.{Fault}
use Rattle.rj_line.specs.declared.fault.Fault.TheVariants as fault
use Rattle.rj_line.specs.declared.fault.Side.TheVariants as side
use Rattle.rj_csv_io.specs.StrictFaults.{AreAbove, HasFault, row_at}
use Rattle.rj_csv_io.specs.Grammar.{Derives, File, Line, records_of}
use Rattle.rj_csv_io.specs.StrictReading.{body_of}
use Rattle.rj_csv_io.specs.declared.strict.fault.StrictFault.{StrictFault}
use Rattle.rj_csv_io.specs.declared.strict.header.HeaderPlace.TheVariants.{First}
use Rattle.rj_line.specs.Keys.{IsListingOf}
use Rattle.rj_line.specs.Suggested.{IsFaultOf, read_as_texts}
use Rattle.rj_line.specs.declared.suggest.strict.StrictlyRefused.{StrictlyRefused}
use Rattle.rj_line.specs.declared.suggest.strict.StrictlyRefused.TheVariants.{Records, Text}
use Rattle.rj_line.specs.declared.suggest.suggestion.ListedColumns.{ListedColumns}
use Rattle.rj_line.specs.declared.suggest.suggestion.Suggestion.{Suggestion}

-- what the records of a text's one derivation suggest of these columns
abbrev pub IsStrictListing : ListedColumns → Bool → ℕ → List ℕ → List (List ℕ) → Suggestion → Type 0
IsStrictListing listed full d bytes nulls s = (file : File) × Derives d First full (body_of First bytes) file × IsListingOf listed (records_of file) nulls s

-- the records that are in lines
abbrev pub records_in_lines : List Line → List (List (List ℕ))
records_in_lines lines = records_of (record { lines = lines; rest = None })

-- the error of records, if they don't read as texts
abbrev pub fault_in : List (List (List ℕ)) → List (List ℕ) → Option Fault
fault_in rs nulls = option_map (read_fault side.Left) (result_err (read_as_texts rs nulls))

-- why a text that is not of the grammar suggests none, given the error of the records above: that one,
-- or its own if there is none, or no header above
abbrev pub refused_below : StrictFault → Option Fault → StrictlyRefused
refused_below f None = Text f
refused_below f (Some (fault.NoHeader s)) = Text f
refused_below f (Some g) = Records g

-- an error of those records, or of a text that has no derivation
pub data IsStrictRefusal (full : Bool) (d : ℕ) (bytes : List ℕ) (nulls : List (List ℕ)) : StrictlyRefused → Type 0 where
  of_records : (file : File) (g : Fault) → Derives d First full (body_of First bytes) file → IsFaultOf (records_of file) nulls g
      → IsStrictRefusal full d bytes nulls (Records g)
  of_text : (f : StrictFault) (lines : List Line) → HasFault d First full (body_of First bytes) f → AreAbove d First (body_of First bytes) (row_at f) lines
      → IsStrictRefusal full d bytes nulls (refused_below f (fault_in (records_in_lines lines) nulls))
