use Rattle.std.proofs.Common.{ap}
use Rattle.rj_columns.specs.Tables.{BuilderValue}
use Rattle.rj_columns.proofs.SegmentFacts.{row-added}
use Rattle.rj_columns.proofs.builder.TableBuilder.end_row.Goals as goal

pub invariant_of-self : goal.invariant_of-self
invariant_of-self c =
    let room = rw (← c.self.view_is) at c.requires.room in
    row-added c.self.inside.names c.self.inside.closed c.self.inside.current.table c.self.inside.current.row c.end_row.new.self.table c.self.invariant c.end_row.ensures.typed room
    (ap (λ (b : BuilderValue). b.table) c.end_row.ensures.ended)
