use Rattle.std.proofs.Common.{◌≡◌}
use Rattle.rj_engine.specs.Shown.{start_of}
use Rattle.rj_engine.proofs.runs.start_of.Given as goal

abbrev pub invariant-loop-k : goal.invariant-loop-k
invariant-loop-k l = l.start ≡ start_of l.segments l.k
