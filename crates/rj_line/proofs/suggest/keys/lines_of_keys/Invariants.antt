use Rattle.std.proofs.Common.{◌≡◌, ◌++◌, drop, length}
use Rattle.rj_line.specs.Keys.{key_lines}
use Rattle.rj_line.proofs.suggest.keys.lines_of_keys.Given as goal

abbrev pub invariant-loop-col : goal.invariant-loop-col
invariant-loop-col l = record {
  so_far : l.lines.items ++ key_lines (drop l.col l.keys) (drop l.col l.table.names) (drop l.col l.kinds) ≡ key_lines l.keys l.table.names l.kinds;
  end : l.col-end ≡ length l.table.types;
  names : length l.table.names ≡ length l.table.types;
}
