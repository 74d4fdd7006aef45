use Rattle.rj_exchange.proofs.HeldFacts.{holds_above_last, last_from}
use Rattle.rj_exchange.proofs.ledger.intake.holds_above.Goals as goal

pub returns-in-Some : goal.returns-in-Some
returns-in-Some c = holds_above_last c.args.number c.args.held.now.entries c.requires.0 _ _ c.requires.1 (last_from c.args.held.now.entries _ _ c.in-Some.ensures.last)
