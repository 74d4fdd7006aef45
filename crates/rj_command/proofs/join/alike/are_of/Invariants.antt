use Rattle.std.proofs.Common.{◌≡◌, drop, length}
use Rattle.std.specs.List.{list_all}
use Rattle.rj_columns.specs.Tables.{column_in}
use Rattle.rj_command.specs.Alike.{is_cell_of}
use Rattle.rj_command.proofs.join.alike.are_of.Given as goal

abbrev pub invariant-loop-row : goal.invariant-loop-row
invariant-loop-row l = record {
  rest : list_all (is_cell_of l.spelling) (column_in l.table.rows l.column) ≡ list_all (is_cell_of l.spelling) (column_in (drop l.row l.table.rows) l.column);
  end : l.row-end ≡ length l.table.rows;
}
