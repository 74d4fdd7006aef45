use Rattle.std.proofs.Common.{◌≡◌, ℕ, List, Some}
use Rattle.rj_shards.specs.Ranges.{IsCutting}
use Rattle.rj_shards.proofs.division.cuts.find_cuts.Given as goal

abbrev pub invariant-loop-turn : goal.invariant-loop-turn
invariant-loop-turn g l = record {
  cutting : (text : List ℕ) → g.I.Input.tells l.fn.input ≡ Some text → IsCutting l.delimiter l.size l.block text (g.I.Input.tells l.input) l.cutting l._turn;
  reads : g.I.Input.count l.input ≡ g.I.Input.count l.fn.input;
}
