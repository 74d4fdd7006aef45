use Rattle.std.proofs.Common.{arith, sym}
use Rattle.rj_columns.proofs.RowFacts.{cut-none, cut-step}
use Rattle.rj_columns.proofs.segment_builder.cut_back.Goals as goal

pub loop-i-init : goal.loop-i-init
loop-i-init c = sym (cut-none c.args.rows c.args.columns.now.items)

pub loop-i-preserved : goal.loop-i-preserved
loop-i-preserved c =
    cut-step c.args.rows c.loop-i.i c.args.columns.now.items c.loop-i.columns.items c.index_mut.result.now c.truncate.new.self (omega arith) c.loop-i.invariant c.index_mut.ensures.value c.truncate.ensures
