use Rattle.rj_csv_io.proofs.ColumnFacts.{first-wide}
use Rattle.rj_csv_io.proofs.columns.FirstColumnsRowSource.columns.Goals as goal

pub returns-clause-wide : goal.returns-clause-wide
returns-clause-wide g c =
    let v = c.args.self.now in first-wide v.columns (g.S.RowSource.contents v.source.now) (g.S.RowSource.width v.source.now) c.columns.ensures.wide
