use Rattle.rj_exchange.proofs.KeptRuleFacts.{one_rule}
use Rattle.rj_exchange.proofs.ledger.laws.offer_rules.Goals as goal

pub returns : goal.returns
returns c = one_rule
