use Rattle.rj_exchange.proofs.DeliveryFacts.{replay_exact}
use Rattle.rj_exchange.proofs.ledger.laws.offers_keep_exactly.Goals as goal

pub returns : goal.returns
returns c = replay_exact
