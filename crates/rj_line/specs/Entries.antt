-- The text of entries of a list of types by name.
use Rattle.std.specs.Prelude.{ℕ, List, [], map}
use Rattle.std.specs.List.{concat}
use Rattle.rj_columns.specs.declared.cell.ColumnType.{ColumnType}
use Rattle.rj_line.specs.Suggested.{column_line}
use Rattle.rj_settings.specs.declared.types.entry.Label.{Label}
use Rattle.rj_settings.specs.declared.types.entry.Label.TheVariants.{Name, Shared}
use Rattle.rj_settings.specs.declared.types.entry.TypeEntry.{TypeEntry}

-- the line of an entry; one without a name has none
abbrev pub line_under : Label → ColumnType → List ℕ
line_under (Name n) kind = column_line n.text kind
line_under (Shared n) kind = column_line n.text kind
line_under _ kind = []

abbrev pub entry_line : TypeEntry → List ℕ
entry_line e = line_under e.label e.kind

-- the lines of entries
abbrev pub entry_lines : List TypeEntry → List ℕ
entry_lines entries = concat (map entry_line entries)
