use Rattle.rj_command.proofs.OperandFacts.{unbound_fault}
use Rattle.rj_command.proofs.join.operands.bind_clause.Goals as goal

pub returns-clause-fault : goal.returns-clause-fault
returns-clause-fault c =
    unbound_fault c.args.text.now c.args.left.now c.args.right.now c.in-Ok.clause c.in-Err-bind.refused c.fault_of_bind.result c.in-Ok.ensures.answer c.in-Err-bind.ensures.fault
    c.fault_of_bind.ensures
