use Rattle.std.proofs.Common.{◌≡◌, ◌-◌, ◌++◌, map, take}
use Rattle.rj_columns.specs.Contents.{content_of}
use Rattle.rj_columns.specs.Tables.{cell_of}
use Rattle.rj_engine.proofs.cells.add_rows.Given as goal

abbrev pub invariant-loop-row : goal.invariant-loop-row
invariant-loop-row l = map content_of l.cells.items ≡ map content_of l.fn.cells.items ++ map (λ i. cell_of l.table (i - l.first) l.col) (take l.row-index l.rows)
