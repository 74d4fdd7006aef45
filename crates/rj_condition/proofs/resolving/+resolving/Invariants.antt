use Rattle.std.proofs.Common.{◌≡◌, map, drop}
use Rattle.rj_condition.specs.Resolved.{resolved, all_ok, onto}
use Rattle.rj_condition.proofs.resolving.+resolving.Given as goal

abbrev pub invariant-resolve_each-loop-condition : goal.invariant-resolve_each-loop-condition
invariant-resolve_each-loop-condition l =
    onto l.done (all_ok (map (resolved l.left.names l.right.names) (drop l.condition-index l.conditions))) ≡ all_ok (map (resolved l.left.names l.right.names) l.conditions)
