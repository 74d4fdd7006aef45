use Rattle.rj_exchange.proofs.KeptRuleFacts.{shows_kept}
use Rattle.rj_exchange.proofs.ledger.laws.shows_kept.Goals as goal

pub returns : goal.returns
returns c = shows_kept
