-- Files put together.
use Rattle.std.specs.Prelude.{◌++◌}
use Rattle.rj_csv_io.specs.Grammar.{File}

-- the lines of a file whose lines all end, and then another file
abbrev pub joined : File → File → File
joined file other = record { lines = file.lines ++ other.lines; rest = other.rest }
