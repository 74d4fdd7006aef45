use Rattle.std.proofs.Common.{◌≡◌, ℕ, Some, length}
use Rattle.std.specs.List.{slice_get}
use Rattle.rj_columns.specs.declared.cell.ColumnType.{ColumnType}
use Rattle.rj_line.specs.Suggested.{IsSuggested}
use Rattle.rj_line.proofs.suggest.columns.kinds_of.Given as goal

abbrev pub invariant-loop-col : goal.invariant-loop-col
invariant-loop-col l = record {
  count : length l.kinds.items ≡ l.col;
  each : (col : ℕ) (kind : ColumnType) → slice_get l.kinds.items col ≡ Some kind → IsSuggested l.table col kind;
  end : l.col-end ≡ length l.table.types;
}
