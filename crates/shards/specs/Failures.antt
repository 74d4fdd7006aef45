-- The lines and the exit statuses of what ends `shards` without its output.
use Rattle.std.specs.Prelude.{◌≡◌, ◌⊎◌, ℕ, List, codes, Option, None, Some, Result, Ok, Err}
use Rattle.clap.specs.declared.error.Error.{Error}
use Rattle.rj_line.specs.Faults as faults
use Rattle.rj_line.specs.Faults.{IsAskedFor}
use Rattle.rj_line.specs.declared.fault.Fault.TheVariants as fault
use Rattle.shards.specs.declared.explaining.ExplainedFailure.{ExplainedFailure}
use Rattle.shards.specs.declared.failure.Failure.{Failure}
use Rattle.shards.specs.declared.failure.Failure.TheVariants.{NoKey, NoTask, NotText, Told}

-- the line of the program's own failures
abbrev pub line_of : Failure → Option (List ℕ)
line_of (Told f) = None
line_of NotText = Some (codes "shards: an argument is not text")
line_of NoTask = Some (codes "shards: one of --out and --cuts has to be given")
line_of NoKey = Some (codes "shards: the clause has no key, so that its tables can't be divided")

-- 0 help and the version, 2 command line, 3 input, 4 clause, 5 memory, 6 device
abbrev pub exit_of : Failure → ℕ
exit_of (Told f) = faults.status_of f
exit_of NotText = 2
exit_of NoTask = 2
exit_of NoKey = 4

-- what `clap` prints in place of the line
abbrev pub clap_error_of : Failure → Option Error
clap_error_of (Told f) = faults.clap_error_of f
clap_error_of NotText = None
clap_error_of NoTask = None
clap_error_of NoKey = None

-- standard output couldn't be written
abbrev pub unwritten : Failure
unwritten = Told fault.WriteDevice

-- the exit status of a run: 0, or that of a failure, or that of a failed write, if help or the
-- version can't be printed
abbrev pub IsStatusOf : Result (Unit {0}) ExplainedFailure → ℕ → Type 0
IsStatusOf (Ok u) status = status ≡ 0
IsStatusOf (Err e) status = (status ≡ exit_of e.failure) ⊎ (IsAskedFor (clap_error_of e.failure) × (status ≡ exit_of unwritten))
