use Rattle.rj_engine.proofs.Sources.{cells-wide}
use Rattle.rj_engine.specs.Shown.{run_rows}
use Rattle.rj_engine.proofs.run_view.RunViewRowSource.columns.Goals as goal

pub returns-clause-wide : goal.returns-clause-wide
returns-clause-wide c =
    let v = c.self.inside in rw (← c.self.view_is) (cells-wide v.segment.now v.right.now v.shown.now.origins.items (run_rows v.shown.now v.joined.now.members v.run))
