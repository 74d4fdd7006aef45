use Rattle.rj_columns.proofs.NullFacts.{remove-values}
use Rattle.rj_columns.proofs.RemoveFacts.{remove-within}
use Rattle.rj_columns.proofs.ints.Ints.remove.Goals as goal

pub invariant_of-self : goal.invariant_of-self
invariant_of-self c = rw (c.remove.ensures, c.remove_at.ensures) (remove-within c.self.inside.values c.self.inside.nulls.items c.args.row c.self.invariant)

pub returns : goal.returns
returns c = rw (c.remove.ensures, c.remove_at.ensures, ← c.self.view_is) (remove-values c.self.inside.values c.self.inside.nulls.items c.args.row)
