use Rattle.std.proofs.Common.{◌≡◌, map, drop}
use Rattle.rj_condition.specs.Names.{resolved_operand}
use Rattle.rj_condition.specs.Resolved.{all_ok, onto}
use Rattle.rj_condition.proofs.resolving.resolve_operands.Given as goal

abbrev pub invariant-loop-operand : goal.invariant-loop-operand
invariant-loop-operand l =
    onto l.done (all_ok (map (resolved_operand l.left.names l.right.names) (drop l.operand-index l.operands))) ≡ all_ok (map (resolved_operand l.left.names l.right.names) l.operands)
