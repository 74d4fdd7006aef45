use Rattle.std.proofs.Common.{◌≡◌, replicate}
use Rattle.rj_exchange.specs.Standing.{nothing_yet}
use Rattle.rj_exchange.proofs.ledger.Ledger.open.Given as goal

abbrev pub invariant-loop-sender : goal.invariant-loop-sender
invariant-loop-sender l = l.intakes.items ≡ replicate l._sender nothing_yet
