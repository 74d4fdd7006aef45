use Rattle.std.proofs.Common.{◌≡◌, ◌++◌, map, take}
use Rattle.rj_columns.specs.Contents.{content_of}
use Rattle.rj_shards.specs.Placed.{placed_cell_of}
use Rattle.rj_shards.proofs.division.placed.add_cells.Given as goal

abbrev pub invariant-loop-row : goal.invariant-loop-row
invariant-loop-row l = map content_of l.cells.items ≡ map content_of l.fn.cells.items ++ map (λ i. placed_cell_of l.table.rows l.first i l.col) (take l.row-index l.rows)
