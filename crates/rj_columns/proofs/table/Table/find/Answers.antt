use Rattle.rj_columns.proofs.SegmentFacts.{part-closed}
use Rattle.rj_columns.proofs.table.Table.find.Goals as goal

pub returns-clause-part : goal.returns-clause-part
returns-clause-part c =
    let inside = c.self.inside in
    rw (← c.self.view_is) (part-closed c.self.inside.names c.self.inside.closed c.self.inside.last c.find-placed.result.now.segment c.args.row c.find-placed.result.now.start c.self.invariant c.find-placed.ensures)
