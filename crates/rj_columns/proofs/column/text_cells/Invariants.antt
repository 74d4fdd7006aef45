use Rattle.std.proofs.Common.{◌≡◌, ◌≤◌, ◌++◌, map}
use Rattle.std.specs.Prelude.{slice_range}
use Rattle.rj_columns.specs.Contents.{cells_of}
use Rattle.rj_columns.specs.Internal.Stores.{text_content}
use Rattle.rj_columns.proofs.column.text_cells.Given as goal

abbrev pub invariant-loop-row : goal.invariant-loop-row
invariant-loop-row l = record {
  cells : cells_of l.cells ≡ cells_of l.fn.cells ++ map text_content (slice_range l.texts l.from l.row);
  low : l.from ≤ l.row;
}
