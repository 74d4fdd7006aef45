use Rattle.std.proofs.Common.{inl, rules}
use Rattle.rj_command.specs.Runs.{IsRunFault}
use Rattle.rj_command.proofs.RunFacts.{of_fault, of_names}
use Rattle.rj_command.proofs.join.opening.open_tables.Goals as goal

pub returns-in_err-operands-clause-fault : goal.returns-in_err-operands-clause-fault
returns-in_err-operands-clause-fault g c =
    of_fault (IsRunFault c.args.left.now c.args.right.now c.args.request.now) c.from_residual.result c.in_err-operands.field-0.0 (search rules)
    (λ memory device. inl (c.in_err-operands.ensures.fault memory))

pub returns-in_err-refuse_names-clause-fault : goal.returns-in_err-refuse_names-clause-fault
returns-in_err-refuse_names-clause-fault g c =
    let l = c.args.left.now in
    let r = c.args.right.now in
    let q = c.args.request.now in
    of_fault (IsRunFault l r q) c.from_residual-in_err-refuse_names.result c.in_err-refuse_names.field-0.0 (search rules)
    (of_names l r q c.in_ok-operands.operands c.in_err-refuse_names.field-0.0 c.in_ok-operands.ensures.operands c.in_err-refuse_names.ensures.fault)
