use Rattle.rj_condition.proofs.ResolvedFacts.{resolved_all, resolved_any}
use Rattle.rj_condition.proofs.resolving.+resolving.Goals as goal

pub resolve-returns-in_ok-all-in-All-clause-ok : goal.resolve-returns-in_ok-all-in-All-clause-ok
resolve-returns-in_ok-all-in-All-clause-ok t c =
    resolved_all c.args.left.now.names c.args.right.now.names c.args.condition.now c.in-All.conditions c.as_slice-in-All.result.now c.in_ok-all-in-All.all c.in-All.is c.as_slice-in-All.ensures c.in_ok-all-in-All.ensures.ok

pub resolve-returns-in_ok-all-in-Any-clause-ok : goal.resolve-returns-in_ok-all-in-Any-clause-ok
resolve-returns-in_ok-all-in-Any-clause-ok t c =
    resolved_any c.args.left.now.names c.args.right.now.names c.args.condition.now c.in-Any.conditions c.as_slice-in-Any.result.now c.in_ok-all-in-Any.all c.in-Any.is c.as_slice-in-Any.ensures c.in_ok-all-in-Any.ensures.ok
