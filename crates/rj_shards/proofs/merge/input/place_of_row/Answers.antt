use Rattle.std.proofs.Common.{sym}
use Rattle.rj_shards.proofs.ToldFacts.{told_place}
use Rattle.rj_shards.proofs.merge.input.place_of_row.Goals as goal

pub returns-in-Err-clause-input : goal.returns-in-Err-clause-input
returns-in-Err-clause-input c = told_place c.args.how.now.order c.args.input c.args.row _ _ c.in-Err.e (sym c.in-Err.ensures)
