use Rattle.std.proofs.Common.{sym}
use Rattle.rj_columns.proofs.RowFacts.{length-rows_of}
use Rattle.rj_columns.proofs.segment_builder.SegmentBuilder.rows.Goals as goal

pub returns : goal.returns
returns c = rw (← c.self.view_is) (sym (length-rows_of c.self.inside.columns.items c.self.inside.rows))
