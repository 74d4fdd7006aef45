use Rattle.std.proofs.Common.{arith}
use Rattle.rj_engine.proofs.RunFacts.{start-within}
use Rattle.rj_engine.proofs.runs.start_of.Goals as goal

pub overflow_add-start : goal.overflow_add-start
overflow_add-start c =
    let low = start-within c.args.segments.now c.loop-k.k in
    omega (arith, c.loop-k.invariant, low, c.requires.few, c.rows-start.ensures.within)
