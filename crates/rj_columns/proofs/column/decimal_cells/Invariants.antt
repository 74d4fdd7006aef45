use Rattle.std.proofs.Common.{◌≡◌, ◌≤◌, ◌++◌, map}
use Rattle.std.specs.Prelude.{slice_range}
use Rattle.rj_columns.specs.Contents.{cells_of}
use Rattle.rj_columns.specs.Internal.Stores.{decimal_content}
use Rattle.rj_columns.proofs.column.decimal_cells.Given as goal

abbrev pub invariant-loop-row : goal.invariant-loop-row
invariant-loop-row l = record {
  cells : cells_of l.cells ≡ cells_of l.fn.cells ++ map (decimal_content l.scale) (slice_range l.numbers l.from l.row);
  low : l.from ≤ l.row;
}
