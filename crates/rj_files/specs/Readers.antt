-- What a clause knows of the reader of a stream by its name.
use Rattle.std.specs.Prelude.{ℕ, List, Option}
use Rattle.rj_files.specs.declared.named.StreamReader.{StreamReader}
use Rattle.rj_files.specs.declared.named.StreamReader.TheVariants.{File, Input}

-- the bytes that remain to it: those of the file, or of standard input
abbrev pub remaining_of : {F I : Type 0} → (F → Option (List ℕ)) → (I → Option (List ℕ)) → StreamReader F I → Option (List ℕ)
remaining_of file input (File f) = file f
remaining_of file input (Input i) = input i
