use Rattle.std.proofs.Common.{sym}
use Rattle.rj_columns.proofs.FoldFacts.{name-at}
use Rattle.rj_columns.proofs.names.Names.get.Goals as goal

pub returns : goal.returns
returns c = rw (← c.self.view_is, c.as_str.ensures.value) (name-at c.self.inside.written.entries c.args.i _ (sym c.in-Some.ensures.entry))
