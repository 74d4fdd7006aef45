use Rattle.std.proofs.Common.{arith}
use Rattle.std.proofs.lemmas.List.{length-take}
use Rattle.rj_columns.proofs.NullFacts.{take-values}
use Rattle.rj_columns.proofs.ints.Ints.truncate.Goals as goal

pub invariant_of-self : goal.invariant_of-self
invariant_of-self c =
    let values = length-take c.args.rows c.self.inside.values in
    let nulls = length-take c.args.rows c.self.inside.nulls.items in
    rw (c.truncate.ensures, c.truncate-2.ensures.items, values, nulls) (grind (arith, c.self.invariant))

pub returns : goal.returns
returns c = rw (c.truncate.ensures, c.truncate-2.ensures.items, ← c.self.view_is) (take-values c.self.inside.values c.self.inside.nulls.items c.args.rows)
