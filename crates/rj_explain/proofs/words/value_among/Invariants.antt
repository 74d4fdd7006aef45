use Rattle.std.proofs.Common.{◌≡◌, Bor, List, ℕ, length, map}
use Rattle.rj_explain.specs.Listed.{value_of}
use Rattle.rj_explain.proofs.words.value_among.Given as goal

abbrev pub invariant-loop-left : goal.invariant-loop-left
invariant-loop-left l = value_of l.option (map (λ (w : Bor (List ℕ)). w.now) l.left) ≡ value_of l.option (map (λ (w : Bor (List ℕ)). w.now) l.words)

abbrev pub decreases-loop-left : goal.decreases-loop-left
decreases-loop-left l = length l.left
