use Rattle.std.proofs.Common.{sym}
use Rattle.rj_condition.specs.Splits.{keys_of}
use Rattle.rj_command.proofs.AlikeFacts.{none_left, none_right}
use Rattle.rj_command.proofs.join.alike.text_keys_of.Goals.{then-not-request-via-then-not-request, then-not-request-via-else-not-request+then-not-request-2}
use Rattle.rj_command.proofs.join.alike.text_keys_of.Goals as goal

pub returns-then-not-request : goal.returns-then-not-request
returns-then-not-request c =
    let o = c.args.operands.now in
    let q = c.args.request.now in
    elim c.then-not-request.branch [
      | then-not-request-via-then-not-request w ↦ rw c.new.ensures.items (sym (none_left q o.left o.right (keys_of o.join) w.if-not-request.true))
      | then-not-request-via-else-not-request+then-not-request-2 w ↦
          rw c.new.ensures.items (sym (none_right q o.left o.right (keys_of o.join) w.if-not-request-2.true))
    ]
