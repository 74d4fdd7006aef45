use Rattle.rj_exchange.proofs.EngineFacts.{once_step}
use Rattle.rj_exchange.proofs.ledger.laws.offer_keeps_once.Goals as goal

pub returns : goal.returns
returns c = once_step
