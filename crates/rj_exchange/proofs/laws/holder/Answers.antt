use Rattle.rj_exchange.proofs.LawFacts.{holder}
use Rattle.rj_exchange.proofs.laws.holder.Goals as goal

pub returns : goal.returns
returns c = holder
