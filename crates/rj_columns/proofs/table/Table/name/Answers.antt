use Rattle.rj_columns.proofs.table.Table.name.Goals as goal

-- a name for each column
pub get-requires : goal.get-requires
get-requires c = rw c.self.invariant.named (rw (← c.self.view_is) at c.requires)

pub returns : goal.returns
returns c = rw (← c.self.view_is) c.get.ensures
