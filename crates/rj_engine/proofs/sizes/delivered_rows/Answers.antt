use Rattle.std.proofs.Common.{ap, arith, length}
use Rattle.rj_engine.proofs.Stripes.{rows_more}
use Rattle.rj_engine.proofs.sizes.delivered_rows.Goals as goal

pub loop-at-preserved : goal.loop-at-preserved
loop-at-preserved c =
    let more = rows_more c.args.ledger.now c.args.first c.loop-at.at in
    let len = ap length c.delivered.ensures in
    let before = c.loop-at.invariant in
    let sum = c.saturating_add-rows.ensures in
    omega arith
