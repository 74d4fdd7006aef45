use Rattle.rj_exchange.proofs.DeliveryFacts.{replay_answers}
use Rattle.rj_exchange.proofs.ledger.laws.offers_answer.Goals as goal

pub returns : goal.returns
returns c = replay_answers
