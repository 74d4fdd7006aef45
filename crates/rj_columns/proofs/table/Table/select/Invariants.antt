use Rattle.std.proofs.Common.{◌≡◌, map, take}
use Rattle.std.specs.Prelude.{All}
use Rattle.rj_columns.specs.Internal.Columns.{IsTyped}
use Rattle.rj_columns.specs.Tables.{cell_of}
use Rattle.rj_columns.proofs.table.Table.select.Given as goal

abbrev pub invariant-loop-col : goal.invariant-loop-col
invariant-loop-col l = (map (λ c. c.cells) l.selected.items ≡ map (λ c. map (λ r. cell_of l.self r c) l.rows) (take l.col-index l.columns)) × All IsTyped l.selected.items
