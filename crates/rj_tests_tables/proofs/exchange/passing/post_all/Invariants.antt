use Rattle.std.proofs.Common.{◌≡◌}
use Rattle.rj_exchange.specs.Boxes.{IsOutboxOf}
use Rattle.rj_tests_tables.proofs.exchange.passing.post_all.Given as goal

abbrev pub invariant-loop : goal.invariant-loop
invariant-loop g l = record {
  same : IsOutboxOf l.exchange l.outbox;
  number : l.outbox.number ≡ l.fn.outbox.number;
}
