-- What is done for the words of the command line, and why it isn't.
use Rattle.std.specs.Prelude.{◌≡◌, Bool, List, [], Option}
use Rattle.clap.specs.Words.{Text}
use Rattle.shards.specs.Cuts.{IsCutsFailure, IsCutting}
use Rattle.shards.specs.Lines.{IsLineFailure, IsShardsLine}
use Rattle.shards.specs.Outputs.{Printed}
use Rattle.shards.specs.Plans.{IsDivision, IsRangeFailure}
use Rattle.shards.specs.declared.failure.Failure.{Failure}
use Rattle.shards.specs.declared.line.Line.{Line}
use Rattle.shards.specs.declared.line.Task.{Task}
use Rattle.shards.specs.declared.line.Task.TheVariants as task

-- (`holds` is what the files of names have, and `tells` whether the parts of a folder tell what they got)

-- a task is done: the parts got the rows of their range, or the places are printed
abbrev pub IsTaskDone : (Text → Option Text) → (Text → Bool) → Line → Task → List (Option Text) → Printed → Printed → Type 0
IsTaskDone holds tells l (task.Divide bounds folder) told old new = IsDivision holds (tells folder.now) l bounds told old new
IsTaskDone holds tells l (task.Cut ranges) told old new = (told ≡ []) × IsCutting holds l ranges old new

-- why a task isn't done, and what is there then
abbrev pub IsTaskFailure : (Text → Option Text) → (Text → Bool) → Line → Task → List (Option Text) → Printed → Printed → Failure → Type 0
IsTaskFailure holds tells l (task.Divide bounds folder) told old new e = IsRangeFailure holds (tells folder.now) l bounds told old new e
IsTaskFailure holds tells l (task.Cut ranges) told old new e = (told ≡ []) × IsCutsFailure holds l ranges old new e

-- the words are a line of the program, whose task is done
pub record IsWorkDone (holds : Text → Option Text) (tells : Text → Bool) (words : List Text) (told : List (Option Text)) (old new : Printed) : Type 0 where
  pub line : Line
  pub read : IsShardsLine words line
  pub done : IsTaskDone holds tells line line.task told old new

-- the words are no line of the program, and nothing is done; or its task isn't done
pub data IsFailure (holds : Text → Option Text) (tells : Text → Bool) (words : List Text) (told : List (Option Text)) (old new : Printed) : Failure → Type 0 where
  of_words : (e : Failure) → IsLineFailure words e → told ≡ [] → new ≡ old → IsFailure holds tells words told old new e
  of_task : (l : Line) (e : Failure) → IsShardsLine words l → IsTaskFailure holds tells l l.task told old new e → IsFailure holds tells words told old new e
