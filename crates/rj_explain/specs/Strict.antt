-- The line of the place where a text stops being of RFC 4180's grammar with a delimiter.
use Rattle.std.specs.Prelude.{ℕ, ◌≡◌, ◌+◌, ◌==◌, Bool, List}
use Rattle.std.specs.List.{count_by}
use Rattle.rj_csv_io.specs.StrictFaults.{AreAbove, HasFault, row_at}
use Rattle.rj_csv_io.specs.Grammar.{Line, lines_text}
use Rattle.rj_csv_io.specs.StrictReading.{body_of}
use Rattle.rj_csv_io.specs.declared.strict.fault.StrictFault.{StrictFault}
use Rattle.rj_csv_io.specs.declared.strict.header.HeaderPlace.TheVariants.{First}

-- one more than the line feeds in the lines above the row that has the text's error
pub record IsFaultLine (d : ℕ) (full : Bool) (text : List ℕ) (line : ℕ) : Type 0 where
  pub fault : StrictFault
  pub lines : List Line
  pub has : HasFault d First full (body_of First text) fault
  pub above : AreAbove d First (body_of First text) (row_at fault) lines
  pub counted : line ≡ count_by (λ c. c == 10) (lines_text d lines) + 1
