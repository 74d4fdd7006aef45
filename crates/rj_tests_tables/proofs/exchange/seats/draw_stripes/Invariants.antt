use Rattle.rj_exchange.specs.Stripes.{IsStripeSeatOf}
use Rattle.rj_tests_tables.proofs.exchange.seats.draw_stripes.Given as goal

abbrev pub invariant-loop : goal.invariant-loop
invariant-loop g l = IsStripeSeatOf l.stripes l.seat
