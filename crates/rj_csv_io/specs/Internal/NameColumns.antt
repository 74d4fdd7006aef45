-- The columns that are held in memory. Internal: no public contract uses it but by `GivenName`.
use Rattle.std.specs.Prelude.{ℕ, true, false, List, map, string_bytes}
use Rattle.rj_csv_io.specs.Named.{Column}
use Rattle.rj_csv_io.specs.declared.names.column.GivenName.{GivenName}
use Rattle.rj_csv_io.specs.declared.names.column.NamedColumn.{NamedColumn}
use Rattle.rj_csv_io.specs.declared.names.column.NamedColumn.TheVariants as named

abbrev pub column_in : NamedColumn → Column
column_in (named.Written field) = record { name = field.now; is_given = false }
column_in (named.Given name) = record { name = string_bytes name; is_given = true }

abbrev pub columns_in : List NamedColumn → List Column
columns_in columns = map column_in columns

-- the numbers and names that are told
abbrev pub told_of : List GivenName → List (ℕ × List ℕ)
told_of given = map (λ (g : GivenName). (g.column, string_bytes g.name)) given
