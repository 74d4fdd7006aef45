use Rattle.std.proofs.Common.{◌≡◌, length}
use Rattle.std.specs.HashSet.{contains}
use Rattle.std.specs.Ordering.{int_eq}
use Rattle.rj_line.specs.Keys.{IsKeyAbove}
use Rattle.rj_line.proofs.KeyFacts.{AreSeen, has_units}
use Rattle.rj_line.proofs.suggest.keys.are_key_numbers.Given as goal

abbrev pub invariant-loop-row : goal.invariant-loop-row
invariant-loop-row l = record {
  end : l.row-end ≡ length l.table.rows;
  above : IsKeyAbove l.table l.col l.row;
  seen : AreSeen has_units l.table l.col l.row (contains int_eq l.seen);
}
