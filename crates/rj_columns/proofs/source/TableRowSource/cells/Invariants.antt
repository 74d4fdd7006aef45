use Rattle.std.proofs.Common.{◌≡◌, ◌≤◌, ◌-◌, ◌++◌}
use Rattle.rj_columns.specs.Contents.{cells_of}
use Rattle.rj_columns.specs.Tables.{part_of}
use Rattle.rj_columns.proofs.source.TableRowSource.cells.Given as goal

abbrev pub invariant-loop-at : goal.invariant-loop-at
invariant-loop-at l = record {
  cells : cells_of l.cells ≡ cells_of l.fn.cells ++ part_of l.self.rows l.col l.from (l.at - l.from);
  low : l.from ≤ l.at;
  high : l.at ≤ l.to;
}

abbrev pub decreases-loop-at : goal.decreases-loop-at
decreases-loop-at l = l.to - l.at
