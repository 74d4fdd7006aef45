use Rattle.std.proofs.Common.{map, rules}
use Rattle.std.specs.Prelude.{string_bytes}
use Rattle.rj_command.specs.Runs.{IsUnprepared}
use Rattle.rj_command.proofs.PreparedFacts.{of_names, of_null, of_unexpected}
use Rattle.rj_command.proofs.RunFacts.{of_fault}
use Rattle.rj_command.proofs.join.running.prepare.Goals as goal

pub returns-clause-prepared : goal.returns-clause-prepared
returns-clause-prepared g c =
    record { counted = c.in_ok-stats.ensures; expected = c.in_ok-joined.ensures.expected; named = c.in_ok-names.ensures.names; chosen = c.in_ok-shown.ensures.chosen }

pub returns-in_err-names-clause-fault : goal.returns-in_err-names-clause-fault
returns-in_err-names-clause-fault g c =
    let q = c.args.request.now in
    let o = c.args.operands.now in
    of_fault (IsUnprepared q o) c.from_residual.result c.in_err-names.field-0.0 (search rules) (of_names q o _ c.in_err-names.ensures.fault)

pub returns-in_err-joined-clause-fault : goal.returns-in_err-joined-clause-fault
returns-in_err-joined-clause-fault g c =
    let q = c.args.request.now in
    let o = c.args.operands.now in
    of_fault (IsUnprepared q o) c.from_residual-in_err-joined.result c.in_err-joined.field-0.0 (search rules)
    (of_unexpected q o _ (map string_bytes c.in_ok-names.names.items) c.in_ok-names.ensures.names c.in_err-joined.ensures.fault)

pub returns-in_err-shown-clause-fault : goal.returns-in_err-shown-clause-fault
returns-in_err-shown-clause-fault g c =
    let q = c.args.request.now in
    let o = c.args.operands.now in
    of_fault (IsUnprepared q o) c.from_residual-in_err-shown.result c.in_err-shown.field-0.0 (search rules)
    (of_null q o _ (map string_bytes c.in_ok-names.names.items) c.in_ok-names.ensures.names c.in_ok-joined.ensures.expected c.in_err-shown.ensures.fault)
