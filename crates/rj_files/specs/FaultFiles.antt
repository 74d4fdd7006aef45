-- The file that the line of an error names in the short form.
use Rattle.std.specs.Prelude.{ℕ, List, Option, None, Some, codes, if◌then◌else◌, unwrap_or}
use Rattle.std.specs.Str.{bytes_eq}
use Rattle.rj_line.specs.declared.fault.Fault.{Fault}
use Rattle.rj_line.specs.declared.fault.Fault.TheVariants as fault
use Rattle.rj_line.specs.declared.fault.Side.TheVariants as side
use Rattle.rj_files.specs.Outputs.{file_of}

-- a table by its file's name
abbrev pub table_name : List ℕ → List ℕ
table_name name = if bytes_eq name (codes "-") then codes "standard input" else name

-- an output by its file's name, if it has one
abbrev pub output_name : Option (List ℕ) → List ℕ
output_name output = unwrap_or (file_of output) (codes "standard output")

-- the file that can't be read or written, by the names of both tables and of the output
abbrev pub fault_file : List ℕ → List ℕ → Option (List ℕ) → Fault → Option (List ℕ)
fault_file left right output (fault.ReadDevice side.Left) = Some (table_name left)
fault_file left right output (fault.ReadDevice side.Right) = Some (table_name right)
fault_file left right output fault.WriteDevice = Some (output_name output)
fault_file left right output f = None
