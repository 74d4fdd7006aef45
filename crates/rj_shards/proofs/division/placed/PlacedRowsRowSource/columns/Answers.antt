use Rattle.rj_shards.proofs.PlacedFacts.{rows-wide}
use Rattle.rj_shards.proofs.division.placed.PlacedRowsRowSource.columns.Goals as goal

pub returns-clause-wide : goal.returns-clause-wide
returns-clause-wide c =
    let v = c.self.inside in
    rw (← c.self.view_is) (rows-wide v.table.now.rows _ v.first v.rows.now c.columns.ensures.wide c.self.invariant.0)
