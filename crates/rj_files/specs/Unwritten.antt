-- What is told of an output that can't be written.
use Rattle.std.specs.Prelude.{ℕ, ◌≡◌, ◌⊎◌, ◌++◌, IsSome, List, None, Ok, Option, codes}
use Rattle.rj_line.specs.declared.fault.Fault.{Fault}
use Rattle.rj_line.specs.declared.fault.Fault.TheVariants as fault
use Rattle.rj_files.specs.FaultFiles.{output_name}
use Rattle.rj_files.specs.Outputs.{file_of}
use Rattle.rj_files.specs.Texts.{IsSystemLine}
use Rattle.rj_files.specs.Told.{IsThere, OptionalText}

-- a line for a folder in which no new file can be made, with the system's words behind it
abbrev pub IsFolderLine : List ℕ → Type 0
IsFolderLine text = (folder : List ℕ) × IsSystemLine (codes "the folder " ++ folder) text

-- the line for an output that can't be made or written: one for the folder of a file, or for itself
abbrev pub IsUnplacedTold : Option (List ℕ) → OptionalText → Type 0
IsUnplacedTold output lines = IsThere lines (λ text. (IsSome (file_of output) × IsFolderLine text) ⊎ IsSystemLine (output_name output) text)

-- memory ran out before there was a file for the result: there are no lines
abbrev pub IsUnmade : Option (List ℕ) → Fault → OptionalText → Type 0
IsUnmade output f lines = IsSome (file_of output) × (f ≡ fault.Memory) × (lines ≡ Ok None)
