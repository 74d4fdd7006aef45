use Rattle.rj_line.proofs.SuggestFacts.{has-other}
use Rattle.rj_line.proofs.suggest.columns.are_of.Goals as goal

pub returns-clause-other : goal.returns-clause-other
returns-clause-other c = has-other c.args.form c.args.table.now c.args.col c.first_not_of.result c.is_none.result c.is_none.ensures c.first_not_of.ensures.some
