use Rattle.std.proofs.Common.{◌∙◌}
use Rattle.rj_columns.proofs.PackFacts.{start-before}
use Rattle.rj_columns.proofs.ends.Ends.start.Goals as goal

pub returns-else-i-eq0 : goal.returns-else-i-eq0
returns-else-i-eq0 c = c.end.ensures ∙ start-before c.args.self.now c.args.i c.if-i-eq0.false c.requires
