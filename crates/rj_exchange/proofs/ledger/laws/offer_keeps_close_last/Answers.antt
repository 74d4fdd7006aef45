use Rattle.rj_exchange.proofs.CloseFacts.{close_last_step}
use Rattle.rj_exchange.proofs.ledger.laws.offer_keeps_close_last.Goals as goal

pub returns : goal.returns
returns c = close_last_step
