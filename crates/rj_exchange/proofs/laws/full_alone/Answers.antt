use Rattle.rj_exchange.proofs.Limits.{full_alone}
use Rattle.rj_exchange.proofs.laws.full_alone.Goals as goal

pub returns : goal.returns
returns c = full_alone
