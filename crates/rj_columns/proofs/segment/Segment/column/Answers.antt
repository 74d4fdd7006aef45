use Rattle.rj_columns.proofs.ColumnFacts.{column-of}
use Rattle.rj_columns.proofs.segment.Segment.column.Goals as goal

pub returns : goal.returns
returns c =
    let k = rw (← c.self.view_is) at c.requires in
    rw (← c.self.view_is) (column-of c.self.inside.columns.items c.self.inside.rows c.args.col c.index.result.now c.self.invariant.filling c.self.invariant.typed k c.index.ensures)
