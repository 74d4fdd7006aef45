use Rattle.std.proofs.Common.{◌≡◌, ◌-◌, ◌++◌, map, take}
use Rattle.rj_columns.specs.Contents.{content_of}
use Rattle.rj_columns.specs.Tables.{cell_of}
use Rattle.rj_engine.specs.Internal.Marks.{row_on}
use Rattle.rj_engine.proofs.cells.add_side.Given as goal

abbrev pub invariant-loop-pair : goal.invariant-loop-pair
invariant-loop-pair l = map content_of l.cells.items ≡ map content_of l.fn.cells.items ++ map (λ p. cell_of l.table (row_on l.side p - l.first) l.col) (take l.pair-index l.pairs)
