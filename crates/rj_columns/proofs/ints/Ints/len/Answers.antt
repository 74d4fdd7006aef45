use Rattle.std.proofs.Common.{rules}
use Rattle.rj_columns.proofs.NullFacts.{length-values}
use Rattle.rj_columns.proofs.ints.Ints.len.Goals as goal

pub returns : goal.returns
returns c = rw (← c.self.view_is, length-values c.self.inside.values c.self.inside.nulls.items) (search rules)
