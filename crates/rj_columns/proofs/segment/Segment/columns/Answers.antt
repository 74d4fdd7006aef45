use Rattle.rj_columns.proofs.RowFacts.{rows_of-typed}
use Rattle.rj_columns.proofs.segment.Segment.columns.Goals as goal

pub returns-clause-typed : goal.returns-clause-typed
returns-clause-typed c = rw (← c.self.view_is) (rows_of-typed c.self.inside.columns.items c.self.inside.rows c.self.invariant.typed)
