use Rattle.std.proofs.Common.{◌∙◌, ◌++◌, ◌∷◌, [], ℕ, List, ap, sym, arith}
use Rattle.rj_shards.proofs.GroupFacts.{range-more}
use Rattle.rj_shards.proofs.division.grouped.numbers.Goals as goal

pub loop-row-preserved : goal.loop-row-preserved
loop-row-preserved c = c.in_ok-push.ensures.items ∙ (ap (λ (l : List ℕ). l ++ c.loop-row.row ∷ []) c.loop-row.invariant ∙ sym (range-more 0 c.loop-row.row c.loop-row.row (omega arith)))
