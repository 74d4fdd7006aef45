-- What is printed for words and a script, and why nothing, or not all, is.
use Rattle.std.specs.Prelude.{◌≡◌, Bool, List, Option, IfSome}
use Rattle.std.specs.Io.KnownBytes.{Appends}
use Rattle.clap.specs.Words.{Text}
use Rattle.arrivals.specs.Lines.{IsLineFailure, IsReplayLine}
use Rattle.arrivals.specs.declared.failure.Failure.{Failure}
use Rattle.arrivals.specs.declared.failure.Failure.TheVariants as failure
use Rattle.arrivals.specs.declared.line.Line.{Line}
use Rattle.rj_line.specs.Report.{printed}
use Rattle.rj_line.specs.Script.{are_readable, readings}

-- the line of the words is printed of the script, if that is told, and whether each line of the
-- script is readable
pub record IsReplay (words : List Text) (script : Option Text) (old new : Option Text) (all : Bool) : Type 0 where
  pub line : Line
  pub read : IsReplayLine words line
  pub printed : IfSome script (λ s. Appends old new (printed line.gaps line.partition line.senders line.block s))
  pub readable : IfSome script (λ s. all ≡ are_readable (readings s))

-- the words are no line; or there is a line, and a device failed; or memory ran out
abbrev pub IsFailure : List Text → Failure → Type 0
IsFailure words failure.ReadDevice = (line : Line) × IsReplayLine words line
IsFailure words failure.WriteDevice = (line : Line) × IsReplayLine words line
IsFailure words f = IsLineFailure words f
