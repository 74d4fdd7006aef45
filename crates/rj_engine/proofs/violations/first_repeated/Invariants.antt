use Rattle.std.proofs.Common.{◌<◌, ◌≤◌, ℕ}
use Rattle.rj_engine.specs.Violations.{times}
use Rattle.rj_engine.proofs.violations.first_repeated.Given as goal

abbrev pub invariant-loop-number : goal.invariant-loop-number
invariant-loop-number l = (k : ℕ) → k < l.number → times k l.numbers ≤ 1
