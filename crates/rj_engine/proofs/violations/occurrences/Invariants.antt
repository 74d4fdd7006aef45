use Rattle.std.proofs.Common.{◌≡◌, ◌<◌, ℕ, length, get_or, take}
use Rattle.rj_engine.specs.Violations.{times}
use Rattle.rj_engine.proofs.violations.occurrences.Given as goal

abbrev pub invariant-loop-number : goal.invariant-loop-number
invariant-loop-number l = record {
  len : length l.counts.items ≡ l.count;
  each : (k : ℕ) → k < l.count → get_or l.counts.items k 0 ≡ times k (take l.number-index l.numbers);
}
