use Rattle.rj_exchange.specs.Boxes.{TakesFrom}
use Rattle.rj_tests_tables.proofs.exchange.crossing.take_all.Given as goal

abbrev pub invariant-loop : goal.invariant-loop
invariant-loop g l = TakesFrom l.exchange l.inbox
