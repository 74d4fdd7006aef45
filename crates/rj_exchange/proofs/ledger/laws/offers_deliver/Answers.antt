use Rattle.rj_exchange.proofs.DeliveryFacts.{replay_delivers}
use Rattle.rj_exchange.proofs.ledger.laws.offers_deliver.Goals as goal

pub returns : goal.returns
returns c = replay_delivers
