use Rattle.std.proofs.Common.{◌≡◌, true, length}
use Rattle.rj_line.specs.Suggested.{EachAbove, is_of}
use Rattle.rj_line.proofs.suggest.columns.first_not_of.Given as goal

abbrev pub invariant-loop-row : goal.invariant-loop-row
invariant-loop-row l = record {
  each : EachAbove l.table l.col l.row (λ s. is_of l.form s ≡ true);
  end : l.row-end ≡ length l.table.rows;
}
