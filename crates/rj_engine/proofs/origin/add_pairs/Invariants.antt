use Rattle.std.proofs.Common.{◌≡◌, ◌++◌, map, drop}
use Rattle.rj_condition.specs.Joins.{pairs_of, pairs_from}
use Rattle.rj_engine.specs.declared.origin.Origin.TheVariants.{Coalesced}
use Rattle.rj_engine.proofs.origin.add_pairs.Given as goal

abbrev pub invariant-loop-left : goal.invariant-loop-left
invariant-loop-left l =
    l.found.items ++ map (λ p. Coalesced p.0 p.1) (pairs_from l.left (drop l.left l.partners)) ≡ l.fn.found.items ++ map (λ p. Coalesced p.0 p.1) (pairs_of l.partners)
