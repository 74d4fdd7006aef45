use Rattle.rj_exchange.proofs.Hearing.{heard_of_none}
use Rattle.rj_exchange.proofs.laws.heard_of_none.Goals as goal

pub returns : goal.returns
returns c = heard_of_none
