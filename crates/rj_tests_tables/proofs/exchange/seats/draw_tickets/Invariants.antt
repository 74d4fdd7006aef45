use Rattle.rj_exchange.specs.Tickets.{IsSeatOf}
use Rattle.rj_tests_tables.proofs.exchange.seats.draw_tickets.Given as goal

abbrev pub invariant-loop : goal.invariant-loop
invariant-loop l = IsSeatOf l.tickets l.seat
