use Rattle.std.proofs.Common.{◌≡◌, drop, length}
use Rattle.rj_columns.specs.Tables.{column_in}
use Rattle.rj_command.specs.Alike.{first_length}
use Rattle.rj_command.proofs.join.alike.first_length.Given as goal

abbrev pub invariant-loop-row : goal.invariant-loop-row
invariant-loop-row l = record {
  rest : first_length (column_in l.table.rows l.column) ≡ first_length (column_in (drop l.row l.table.rows) l.column);
  end : l.row-end ≡ length l.table.rows;
}
