use Rattle.rj_condition.proofs.Answer.{one_clause}
use Rattle.rj_condition.proofs.laws.one_clause.Goals as goal

pub returns : goal.returns
returns c = one_clause
