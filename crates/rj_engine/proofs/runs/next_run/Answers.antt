use Rattle.std.proofs.Common.{◌+◌, arith}
use Rattle.rj_engine.proofs.RunFacts.{start-within}
use Rattle.rj_engine.proofs.runs.next_run.Goals as goal

pub overflow_cast-first : goal.overflow_cast-first
overflow_cast-first c =
    let low = start-within c.args.segments.now c.segment_of-segment.result in
    omega (arith, c.start_of-first.ensures, low, c.requires.few)

pub overflow_cast-end : goal.overflow_cast-end
overflow_cast-end c =
    let low = start-within c.args.segments.now (c.segment_of-segment.result + 1) in
    omega (arith, c.start_of-end.ensures, low, c.requires.few)
