use Rattle.std.proofs.Common.{◌≡◌, length}
use Rattle.rj_line.specs.Suggested.{EachAbove}
use Rattle.rj_line.proofs.suggest.columns.has_text.Given as goal

abbrev pub invariant-loop-row : goal.invariant-loop-row
invariant-loop-row l = record {
  none : EachAbove l.table l.col l.row (λ _. ⊥);
  end : l.row-end ≡ length l.table.rows;
}
