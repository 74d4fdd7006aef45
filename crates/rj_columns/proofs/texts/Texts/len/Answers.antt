use Rattle.std.proofs.Common.{rules}
use Rattle.rj_columns.proofs.NullFacts.{length-values}
use Rattle.rj_columns.proofs.PackFacts.{length-texts}
use Rattle.rj_columns.proofs.texts.Texts.len.Goals as goal

pub returns : goal.returns
returns c = rw (← c.self.view_is, length-values, length-texts) (search rules)
