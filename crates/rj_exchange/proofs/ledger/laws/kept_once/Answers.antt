use Rattle.rj_exchange.proofs.DeliveryFacts.{all_kept_once}
use Rattle.rj_exchange.proofs.ledger.laws.kept_once.Goals as goal

pub returns : goal.returns
returns c = all_kept_once
