use Rattle.std.proofs.Common.{arith, sym}
use Rattle.rj_columns.specs.Internal.Columns.{without_last}
use Rattle.rj_columns.proofs.PushFacts.{changed-none, changed-step}
use Rattle.rj_columns.proofs.segment_builder.pop_each.Goals as goal

pub loop-i-init : goal.loop-i-init
loop-i-init c = sym (changed-none without_last c.args.columns.now.items)

pub loop-i-preserved : goal.loop-i-preserved
loop-i-preserved c =
    changed-step without_last c.loop-i.i c.args.columns.now.items c.loop-i.columns.items c.index_mut.result.now c.pop.new.self (omega arith) c.loop-i.invariant c.index_mut.ensures.value c.pop.ensures
