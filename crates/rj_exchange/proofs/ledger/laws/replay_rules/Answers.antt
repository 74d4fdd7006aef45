use Rattle.rj_exchange.proofs.KeptRuleFacts.{replay_rules}
use Rattle.rj_exchange.proofs.ledger.laws.replay_rules.Goals as goal

pub returns : goal.returns
returns c = replay_rules
