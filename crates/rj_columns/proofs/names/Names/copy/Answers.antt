use Rattle.rj_columns.proofs.FoldFacts.{copied-names, copied-folded}
use Rattle.rj_columns.proofs.names.Names.copy.Goals as goal

pub invariant_of-result : goal.invariant_of-result
invariant_of-result c = copied-folded c.self.inside.written.entries c.in_ok-clone.field-0.entries c.in_ok-clone.ensures.cases c.self.invariant

pub returns : goal.returns
returns c = rw (← c.self.view_is) (copied-names c.self.inside.written.entries c.in_ok-clone.field-0.entries c.in_ok-clone.ensures.cases)
