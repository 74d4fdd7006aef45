use Rattle.std.proofs.Common.{◌≡◌, drop}
use Rattle.rj_exchange.proofs.ledger.intake.drop_first.Given as goal

abbrev pub invariant-loop-taken : goal.invariant-loop-taken
invariant-loop-taken l = l.held.entries ≡ drop l.taken l.fn.held.entries
