use Rattle.std.proofs.Common.{◌≡◌, ◌++◌, take}
use Rattle.std.specs.Prelude.{string_bytes}
use Rattle.std.specs.List.{flat_map}
use Rattle.rj_command.specs.Reported.{cell_part}
use Rattle.rj_command.proofs.join.reports.add_cells.Given as goal

abbrev pub invariant-loop-column : goal.invariant-loop-column
invariant-loop-column l = string_bytes l.text ≡ string_bytes l.fn.text ++ flat_map (λ c. cell_part l.table l.row c) (take l.column-index l.columns)
