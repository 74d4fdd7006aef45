use Rattle.rj_command.proofs.OperandFacts.{asked_fault, asked_fits, asked_join, binding_fault}
use Rattle.rj_command.proofs.join.operands.bind_request.Goals as goal

pub returns-in-Ok-bind-clause-join : goal.returns-in-Ok-bind-clause-join
returns-in-Ok-bind-clause-join c =
    asked_join c.args.request.now c.args.left.now c.args.right.now c.in-Ok.clause c.in-Ok-bind.join c.in-Ok.ensures.answer c.in_ok-refuse_shared_names.ensures.named c.in-Ok-bind.ensures.ok
    c.in-Ok-undeclared_fault.undeclared c.in-Ok-undeclared_fault.ensures c.declared.result c.declared.ensures

pub returns-in-Ok-bind-clause-fault : goal.returns-in-Ok-bind-clause-fault
returns-in-Ok-bind-clause-fault c =
    asked_fault c.args.request.now c.args.left.now c.args.right.now c.in-Ok.clause c.in-Ok-bind.join c.in-Ok.ensures.answer c.in_ok-refuse_shared_names.ensures.named c.in-Ok-bind.ensures.ok
    c.in-Ok-undeclared_fault.undeclared c.in-Ok-undeclared_fault.ensures c.declared.result c.declared.ensures

pub returns-clause-fault : goal.returns-clause-fault
returns-clause-fault c =
    binding_fault c.args.request.now c.args.left.now c.args.right.now c.in-Ok.clause c.in-Ok-undeclared_fault.undeclared c.in-Err-bind.refused c.fault_of_unbound.result
    c.in-Ok.ensures.answer c.in_ok-refuse_shared_names.ensures.named c.in-Ok-undeclared_fault.ensures c.in-Err-bind.ensures.fault c.fault_of_unbound.ensures

pub returns-in-Ok-bind-clause-bound : goal.returns-in-Ok-bind-clause-bound
returns-in-Ok-bind-clause-bound c =
    asked_fits c.args.request.now c.args.left.now c.args.right.now c.in-Ok-bind.join c.in-Ok-undeclared_fault.undeclared c.declared.result c.declared.ensures c.in-Ok-bind.ensures.fits
