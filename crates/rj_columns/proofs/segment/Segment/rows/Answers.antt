use Rattle.std.proofs.Common.{sym}
use Rattle.rj_columns.proofs.RowFacts.{length-rows_of}
use Rattle.rj_columns.proofs.segment.Segment.rows.Goals as goal

pub returns-clause-count : goal.returns-clause-count
returns-clause-count c = rw (← c.self.view_is) (sym (length-rows_of c.self.inside.columns.items c.self.inside.rows))
