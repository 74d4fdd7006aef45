use Rattle.std.proofs.Common.{◌≡◌, drop}
use Rattle.rj_condition.specs.Fits.{all_fit}
use Rattle.rj_condition.proofs.typing.+typing.Given as goal

abbrev pub invariant-are_typed-loop-condition : goal.invariant-are_typed-loop-condition
invariant-are_typed-loop-condition l = all_fit l.left.types l.right.types (drop l.condition-index l.conditions) ≡ all_fit l.left.types l.right.types l.conditions
