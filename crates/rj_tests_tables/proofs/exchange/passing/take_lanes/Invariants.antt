use Rattle.std.proofs.Common.{◌<◌}
use Rattle.rj_exchange.specs.Boxes.{TakesFrom}
use Rattle.rj_tests_tables.proofs.exchange.passing.take_lanes.Given as goal

abbrev pub invariant-loop : goal.invariant-loop
invariant-loop g l = record {
  takes : TakesFrom l.exchange l.inbox;
  lane : l.lane < l.exchange.lanes;
}
