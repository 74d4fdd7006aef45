use Rattle.std.proofs.Common.{◌≡◌, length}
use Rattle.rj_line.specs.Suggested.{IsMostAbove}
use Rattle.rj_line.proofs.suggest.columns.most_digits.Given as goal

abbrev pub invariant-loop-row : goal.invariant-loop-row
invariant-loop-row l = record {
  most : IsMostAbove l.table l.col l.row l.part l.least l.most;
  end : l.row-end ≡ length l.table.rows;
}
