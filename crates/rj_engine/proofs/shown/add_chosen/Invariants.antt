use Rattle.std.proofs.Common.{◌≡◌, ◌++◌, map, take}
use Rattle.rj_columns.specs.Contents.{content_of}
use Rattle.rj_engine.specs.Cells.{joined_cell}
use Rattle.rj_engine.specs.Shown.{counted_from}
use Rattle.rj_engine.proofs.shown.add_chosen.Given as goal

abbrev pub invariant-loop-row : goal.invariant-loop-row
invariant-loop-row l = map content_of l.cells.items ≡ map content_of l.fn.cells.items ++ map (λ row. joined_cell l.left l.right (counted_from l.first row) l.origin) (take l.row-index l.rows)
