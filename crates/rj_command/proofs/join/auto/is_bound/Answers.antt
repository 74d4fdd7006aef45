use Rattle.rj_condition.proofs.Answer.{one_clause}
use Rattle.rj_command.proofs.AutoFacts.{unbound_clause}
use Rattle.rj_command.proofs.join.auto.is_bound.Goals as goal

pub returns-in_default-clause-unbound : goal.returns-in_default-clause-unbound
returns-in_default-clause-unbound c = λ _ is.
    let none = rw c.in_default.is at c.in_ok-clause.ensures in
    none is.3.1.0 is.3.1.1

pub returns-clause-unbound : goal.returns-clause-unbound
returns-clause-unbound c = λ _.
    let has = rw c.in-Some.is at c.in_ok-clause.ensures in
    let left = rw c.in-Some-2.is at c.in_ok-left.ensures in
    let right = rw c.in-Some-3.is at c.in_ok-right.ensures in
    let refused = rw c.in-None.is at c.in_ok-_join.ensures in
    unbound_clause c.args.left.now c.args.right.now c.args.request.now one_clause c.in-Some.clause c.in-Some-2.left c.in-Some-3.right has
    (record { left_header = left; right_header = right }) refused
