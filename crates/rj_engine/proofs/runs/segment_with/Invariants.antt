use Rattle.std.proofs.Common.{◌≡◌, ◌≤◌}
use Rattle.rj_engine.specs.Shown.{start_of}
use Rattle.rj_engine.proofs.runs.segment_with.Given as goal

abbrev pub invariant-loop-k : goal.invariant-loop-k
invariant-loop-k l = record {
  start : l.start ≡ start_of l.segments l.k;
  before : l.start ≤ l.row;
}
