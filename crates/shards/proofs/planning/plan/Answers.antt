use Rattle.std.proofs.Common.{rules}
use Rattle.std.proofs.lemmas.Result.{IfErr-weaker, IfOk-weaker}
use Rattle.shards.specs.Plans.{AreKeysOver, IsOtherFailure, of_clause, of_other_head, of_other_table}
use Rattle.shards.specs.declared.failure.Failure.TheVariants.{Told}
use Rattle.shards.proofs.PlanFacts.{side-fault, side-head, side-table, table-fault}
use Rattle.shards.proofs.planning.plan.Goals as goal

pub returns-in_err-head-clause-fault : goal.returns-in_err-head-clause-fault
returns-in_err-head-clause-fault g c =
    let holds = g.S.Storage.holds c.args.storage.now in
    let told : IsOtherFailure holds c.args.line.now c.args.own.now (Told c.in_err-head.field-0.0) =
    of_other_head c.in_err-head.field-0.0
    (side-fault holds c.args.line.now c.other_side-side.result _ c.operand-table.result.now c.other_side-side.ensures c.operand-table.ensures c.in_err-head.field-0.0 c.in_err-head.ensures.fault) in
    search (rules, told)

pub returns-in_err-other-clause-fault : goal.returns-in_err-other-clause-fault
returns-in_err-other-clause-fault g c =
    let holds = g.S.Storage.holds c.args.storage.now in
    let told : IsOtherFailure holds c.args.line.now c.args.own.now (Told c.in_err-other.field-0.0) =
    of_other_table c.in_ok-head.head c.in_err-other.field-0.0
    (side-head holds c.args.line.now c.other_side-side.result _ c.operand-table.result.now c.other_side-side.ensures c.operand-table.ensures c.in_ok-head.head c.in_ok-head.ensures.head)
    (table-fault holds c.args.line.now c.other_side-side.result _ c.operand-table.result.now c.other_side-side.ensures c.operand-table.ensures c.in_ok-head.head c.in_err-other.field-0.0 c.in_err-other.ensures.fault) in
    search (rules, told)

pub returns-clause-keys : goal.returns-clause-keys
returns-clause-keys g c =
    let holds = g.S.Storage.holds c.args.storage.now in
    IfOk-weaker c.shards_of.result _ (λ p. AreKeysOver holds c.args.line.now c.args.own.now p.1.items) (λ p is. record {
      head = c.in_ok-head.head;
      is_head = side-head holds c.args.line.now c.other_side-side.result _ c.operand-table.result.now c.other_side-side.ensures c.operand-table.ensures c.in_ok-head.head c.in_ok-head.ensures.head;
      other = c.in_ok-other.other;
      table = side-table holds c.args.line.now c.other_side-side.result _ c.operand-table.result.now c.other_side-side.ensures c.operand-table.ensures c.in_ok-head.head c.in_ok-other.other c.in_ok-other.ensures.table;
      keys = is;
    }) c.shards_of.ensures.keys

pub returns-clause-fault : goal.returns-clause-fault
returns-clause-fault g c =
    let holds = g.S.Storage.holds c.args.storage.now in
    IfErr-weaker c.shards_of.result _ (IsOtherFailure holds c.args.line.now c.args.own.now) (λ e is.
    of_clause c.in_ok-head.head c.in_ok-other.other e
    (side-head holds c.args.line.now c.other_side-side.result _ c.operand-table.result.now c.other_side-side.ensures c.operand-table.ensures c.in_ok-head.head c.in_ok-head.ensures.head)
    (side-table holds c.args.line.now c.other_side-side.result _ c.operand-table.result.now c.other_side-side.ensures c.operand-table.ensures c.in_ok-head.head c.in_ok-other.other c.in_ok-other.ensures.table)
    is) c.shards_of.ensures.fault
