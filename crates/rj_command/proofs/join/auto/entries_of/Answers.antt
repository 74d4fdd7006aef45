use Rattle.std.proofs.Common.{◌∙◌, ◌+◌, ◌++◌, ap, drop}
use Rattle.rj_command.specs.Auto.{compares, entries_from, table_of}
use Rattle.rj_command.proofs.AutoFacts.{entry_next}
use Rattle.rj_command.proofs.join.auto.entries_of.Goals as goal

pub loop-i-preserved : goal.loop-i-preserved
loop-i-preserved c =
    let q = c.args.request.now in
    let s = c.args.side in
    let l = c.args.compared.now.left.now in
    let r = c.args.compared.now.right.now in
    let compared = compares l r c.args.compared.now.clause.now s in
    let kinds = c.args.kinds.now in
    let names = (table_of l r s).names in
    let found = c.in_ok-entry_at.ensures in (
      ap (λ entries. entries ++ entries_from q s compared kinds (c.loop-i.i + 1) (drop (c.loop-i.i + 1) names)) c.in_ok-push_some.ensures
          ∙ (entry_next q s compared kinds names c.loop-i.i found.0 c.loop-i.entries.items c.in_ok-entry_at.field-0 found.1 found.2 ∙ c.loop-i.invariant.0),
      c.loop-i.invariant.1,
    )
