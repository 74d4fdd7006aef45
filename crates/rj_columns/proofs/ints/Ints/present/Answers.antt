use Rattle.std.proofs.Common.{◌≡◌, length, rules}
use Rattle.rj_columns.proofs.NullFacts.{all-present}
use Rattle.rj_columns.proofs.ints.Ints.present.Goals as goal

pub returns-then-is_empty : goal.returns-then-is_empty
returns-then-is_empty c =
    let none : length c.self.inside.nulls.items ≡ 0 = search rules in
    rw (← c.self.view_is, c.as_slice.ensures) (all-present c.self.inside.values c.self.inside.nulls.items none)
