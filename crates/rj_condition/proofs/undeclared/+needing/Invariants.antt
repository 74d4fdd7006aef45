use Rattle.std.proofs.Common.{◌≡◌, drop}
use Rattle.rj_condition.specs.Undeclared.{marked, needing_among}
use Rattle.rj_condition.proofs.undeclared.+needing.Given as goal

abbrev pub invariant-needing_among-loop-condition : goal.invariant-needing_among-loop-condition
invariant-needing_among-loop-condition l = needing_among (marked l.left) (marked l.right) (drop l.condition-index l.conditions) ≡ needing_among (marked l.left) (marked l.right) l.conditions
