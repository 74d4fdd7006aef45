use Rattle.std.proofs.Common.{◌≡◌, ◌++◌, drop, length}
use Rattle.rj_line.specs.Suggested.{column_lines}
use Rattle.rj_line.proofs.suggest.writing.lines_of.Given as goal

abbrev pub invariant-loop-col : goal.invariant-loop-col
invariant-loop-col l = record {
  so_far : l.lines.items ++ column_lines (drop l.col l.table.names) (drop l.col l.kinds) ≡ column_lines l.table.names l.kinds;
  end : l.col-end ≡ length l.table.types;
  names : length l.table.names ≡ length l.table.types;
}
