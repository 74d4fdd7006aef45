use Rattle.std.proofs.Common.{◌∙◌, rules, sym}
use Rattle.rj_command.specs.Runs.{IsRunFault, outcome_of}
use Rattle.rj_command.proofs.RunFacts.{has_joined, joined_of_operands, no_other, of_operands, of_outcome, of_outcome_fault}
use Rattle.rj_command.proofs.join.running.run.Goals as goal

pub returns-clause-joined : goal.returns-clause-joined
returns-clause-joined g c =
    of_outcome _ _ _ c.outcome_of.ensures
    (joined_of_operands _ _ _ c.in_ok-operands.operands _ _ (outcome_of c.write_joined-written.result) c.in_ok-operands.ensures.operands c.write_joined-written.ensures.ok)

pub returns-clause-fault : goal.returns-clause-fault
returns-clause-fault g c =
    let l = g.B.AsSlice.items c.args.left in
    let r = g.B.AsSlice.items c.args.right in
    of_outcome_fault (IsRunFault l r c.args.request.now) _ _ c.outcome_of.ensures
    (no_other l r c.args.request.now c.in_ok-operands.operands (outcome_of c.write_joined-written.result) c.in_ok-operands.ensures.operands c.write_joined-written.ensures.fault)

pub returns-clause-failed : goal.returns-clause-failed
returns-clause-failed g c = λ failed.
    has_joined (g.B.AsSlice.items c.args.left) (g.B.AsSlice.items c.args.right) c.args.request.now c.in_ok-operands.operands c.in_ok-operands.ensures.operands
    (c.write_joined-written.ensures.failed (sym c.outcome_of.ensures ∙ failed))

pub returns-in_err-operands-clause-fault : goal.returns-in_err-operands-clause-fault
returns-in_err-operands-clause-fault g c = of_operands (g.B.AsSlice.items c.args.left) (g.B.AsSlice.items c.args.right) c.args.request.now c.from_residual.result c.in_err-operands.field-0.0 (search rules) c.in_err-operands.ensures.fault
