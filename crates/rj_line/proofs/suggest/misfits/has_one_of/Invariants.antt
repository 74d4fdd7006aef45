use Rattle.std.proofs.Common.{◌≡◌, false, length}
use Rattle.rj_line.specs.Suggested.{EachAbove, is_of}
use Rattle.rj_line.proofs.suggest.misfits.has_one_of.Given as goal

abbrev pub invariant-loop-row : goal.invariant-loop-row
invariant-loop-row l = record {
  none : EachAbove l.table l.col l.row (λ s. is_of l.form s ≡ false);
  end : l.row-end ≡ length l.table.rows;
}
