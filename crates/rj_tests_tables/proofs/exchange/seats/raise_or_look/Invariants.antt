use Rattle.rj_exchange.specs.Halt.{IsHaltSeatOf}
use Rattle.rj_tests_tables.proofs.exchange.seats.raise_or_look.Given as goal

abbrev pub invariant-loop : goal.invariant-loop
invariant-loop l = IsHaltSeatOf l.halt l.seat
