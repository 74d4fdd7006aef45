use Rattle.std.proofs.Common.{◌≡◌}
use Rattle.std.specs.Prelude.{replicate, None}
use Rattle.rj_condition.proofs.partners.without_partners.Given as goal

abbrev pub invariant-loop : goal.invariant-loop
invariant-loop l = l.partners.items ≡ replicate l.counter None
