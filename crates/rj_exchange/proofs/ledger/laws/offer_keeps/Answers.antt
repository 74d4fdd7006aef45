use Rattle.rj_exchange.proofs.LedgerFacts.{keeps_offer}
use Rattle.rj_exchange.proofs.ledger.laws.offer_keeps.Goals as goal

pub returns : goal.returns
returns c = keeps_offer
