use Rattle.std.proofs.Common.{◌≡◌, map, take}
use Rattle.std.specs.Prelude.{Some, slice_get}
use Rattle.rj_columns.specs.Internal.Columns.{IsTyped}
use Rattle.rj_columns.specs.Tables.{cell_of}
use Rattle.rj_columns.proofs.table.Table.select_column.Given as goal

abbrev pub invariant-loop-row : goal.invariant-loop-row
invariant-loop-row l = (slice_get l.self.types l.col ≡ Some l.column.kind) × (l.column.cells ≡ map (λ r. cell_of l.self r l.col) (take l.row-index l.rows)) × IsTyped l.column
