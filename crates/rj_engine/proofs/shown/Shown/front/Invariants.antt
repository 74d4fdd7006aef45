use Rattle.std.proofs.Common.{◌≡◌, ◌≤◌, false, All, drop, length}
use Rattle.rj_engine.specs.Chosen.{is_of_left}
use Rattle.rj_engine.proofs.shown.Shown.front.Given as goal

abbrev pub invariant-loop-front : goal.invariant-loop-front
invariant-loop-front l = record {
  few : l.front ≤ length l.self.origins.items;
  right : All (λ o. is_of_left o ≡ false) (drop l.front l.self.origins.items);
}

abbrev pub decreases-loop-front : goal.decreases-loop-front
decreases-loop-front l = l.front
