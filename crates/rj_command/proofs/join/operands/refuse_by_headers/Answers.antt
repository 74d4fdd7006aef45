use Rattle.std.proofs.Common.{◌≡◌, ◌≢◌, ◌∙◌, Err, ap, rules, true}
use Rattle.std.proofs.lemmas.Result.{err_from_is_err_and}
use Rattle.rj_line.specs.declared.fault.Fault.{Fault}
use Rattle.rj_line.specs.declared.fault.Fault.TheVariants as fault
use Rattle.rj_command.specs.Operands.{IsHeaderFault}
use Rattle.rj_command.proofs.OperandFacts.{fault_of_names, none_where_bound}
use Rattle.rj_command.proofs.RunFacts.{of_fault}
use Rattle.rj_command.proofs.join.operands.refuse_by_headers.Goals as goal

pub returns-clause-none : goal.returns-clause-none
returns-clause-none c =
    none_where_bound c.args.named c.args.left.now c.args.right.now c.args.request.now c.in-Some.left c.in-Some-2.right
    (record { left_header = rw c.in-Some.is at c.in_ok-left.ensures; right_header = rw c.in-Some-2.is at c.in_ok-right.ensures })
    c.in_ok-operands.operands c.in_ok-operands.ensures.tables c.in_ok-refuse_names.ensures.names

pub returns-in_err-refuse_names-clause-fault : goal.returns-in_err-refuse_names-clause-fault
returns-in_err-refuse_names-clause-fault c =
    let refused = c.in_err-refuse_names in
    let short : c.args.request.now.short ≡ true = search rules in
    let told = fault_of_names c.args.named c.args.left.now c.args.right.now c.args.request.now c.in-Some.left c.in-Some-2.right
    (record { left_header = rw c.in-Some.is at c.in_ok-left.ensures; right_header = rw c.in-Some-2.is at c.in_ok-right.ensures })
    c.in_ok-operands.operands refused.field-0.0 short c.in_ok-operands.ensures.tables refused.ensures.fault in
    let e = err_from_is_err_and c.from_residual-in_err-refuse_names.result c.from_residual-in_err-refuse_names.ensures.1 in
    of_fault (λ (f : Fault). f ≢ fault.Memory → IsHeaderFault c.args.named c.args.left.now c.args.right.now c.args.request.now f)
    c.from_residual-in_err-refuse_names.result refused.field-0.0 (e.1 ∙ ap Err e.2) told
