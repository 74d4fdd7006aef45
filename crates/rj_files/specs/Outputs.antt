-- Where a result is written, and the tables that can't be read beside it.
use Rattle.std.specs.Prelude.{◌≡◌, ◌⊎◌, ℕ, true, List, Option, None, Some, codes, if◌then◌else◌, Result, Ok, Err, unwrap_or}
use Rattle.std.specs.Str.{bytes_eq}
use Rattle.rj_files.specs.Identities.{Answer, IsAnswer, are_one_file}
use Rattle.rj_line.specs.declared.fault.Fault.{Fault}
use Rattle.rj_line.specs.declared.fault.Fault.TheVariants as fault
use Rattle.rj_line.specs.declared.fault.Side.{Side}
use Rattle.rj_line.specs.declared.fault.Side.TheVariants as side

-- the file of an output's name; none if the name is `-` or isn't given, and the result goes to
-- standard output
abbrev pub file_of : Option (List ℕ) → Option (List ℕ)
file_of None = None
file_of (Some name) = if bytes_eq name (codes "-") then None else Some name

-- the paths by which the system shows where a result is written, and from where a table is read
abbrev pub output_path : Option (List ℕ) → List ℕ
output_path output = unwrap_or (file_of output) (codes "/proc/self/fd/1")

abbrev pub input_path : List ℕ → List ℕ
input_path name = if bytes_eq name (codes "-") then codes "/proc/self/fd/0" else name

-- the side of a line whose table is standard input, by the names of the tables
abbrev pub input_side : List ℕ → List ℕ → Option Side
input_side left right = if bytes_eq left (codes "-") then Some side.Left else if bytes_eq right (codes "-") then Some side.Right else None

-- both tables are standard input
abbrev pub AreStandard : List ℕ → List ℕ → Type 0
AreStandard left right = (bytes_eq left (codes "-") ≡ true) × (bytes_eq right (codes "-") ≡ true)

-- what becomes of a side's table, by the answers to the paths of the output and of the table: it is
-- refused if they lead to one regular file
abbrev pub judged : Side → Answer → Answer → Result (Unit {0}) Fault
judged s (Err e) input = Err fault.Memory
judged s (Ok output) (Err e) = Err fault.Memory
judged s (Ok output) (Ok input) = if are_one_file output input then Err (fault.OutputIsInput s) else Ok tt

-- that is so by the answers of the system
pub record IsJudged (answers : List ℕ → Option Answer) (s : Side) (output input : List ℕ) (result : Result (Unit {0}) Fault) : Type 0 where
  pub of_output : Answer
  pub of_input : Answer
  pub output_answered : IsAnswer (answers output) of_output
  pub input_answered : IsAnswer (answers input) of_input
  pub judged_so : result ≡ judged s of_output of_input

-- neither of two tables is refused
abbrev pub AreAccepted : (List ℕ → Option Answer) → Option (List ℕ) → List ℕ → List ℕ → Type 0
AreAccepted answers output left right =
    IsJudged answers side.Left (output_path output) (input_path left) (Ok tt)
    × IsJudged answers side.Right (output_path output) (input_path right) (Ok tt)

-- why two tables aren't read
abbrev pub IsInputFault : (List ℕ → Option Answer) → Option (List ℕ) → List ℕ → List ℕ → Fault → Type 0
IsInputFault answers output left right f =
    (AreStandard left right × (f ≡ fault.TwoStandardInputs))
    ⊎ (IsJudged answers side.Left (output_path output) (input_path left) (Err f)
    ⊎ IsJudged answers side.Right (output_path output) (input_path right) (Err f))
