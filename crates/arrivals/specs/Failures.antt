-- The lines and the exit statuses of what ends `arrivals` without its output.
use Rattle.std.specs.Prelude.{◌≡◌, ◌⊎◌, ℕ, Bool, true, false, List, codes, Option, None, Some, Result, Ok, Err}
use Rattle.clap.specs.Values.{kind_of}
use Rattle.clap.specs.declared.error.Error.{Error}
use Rattle.rj_line.specs.Faults.{IsAskedFor, refused_status}
use Rattle.arrivals.specs.declared.failure.Failure.{Failure}
use Rattle.arrivals.specs.declared.failure.Failure.TheVariants as failure

-- the line, unless `clap` prints a text of its own
abbrev pub line_of : Failure → Option (List ℕ)
line_of (failure.CommandLine e) = None
line_of failure.NotText = Some (codes "arrivals: an argument is not text")
line_of failure.Memory = Some (codes "arrivals: E18 Memory")
line_of failure.ReadDevice = Some (codes "arrivals: E19 ReadDevice")
line_of failure.WriteDevice = Some (codes "arrivals: E20 WriteDevice")

-- 0 help and the version, 2 command line, 5 memory, 6 device
abbrev pub exit_of : Failure → ℕ
exit_of (failure.CommandLine e) = refused_status (kind_of e)
exit_of failure.NotText = 2
exit_of failure.Memory = 5
exit_of failure.ReadDevice = 6
exit_of failure.WriteDevice = 6

-- what `clap` prints in place of the line
abbrev pub clap_error_of : Failure → Option Error
clap_error_of (failure.CommandLine e) = Some e
clap_error_of _ = None

-- the exit status of a run: 0 if each line of the script is readable, and else 3; that of a failure;
-- or that of a failed write, if help or the version can't be printed
abbrev pub IsStatusOf : Result Bool Failure → ℕ → Type 0
IsStatusOf (Ok true) status = status ≡ 0
IsStatusOf (Ok false) status = status ≡ 3
IsStatusOf (Err f) status = (status ≡ exit_of f) ⊎ (IsAskedFor (clap_error_of f) × (status ≡ exit_of failure.WriteDevice))
