use Rattle.rj_engine.proofs.Sources.{cells-wide}
use Rattle.rj_engine.specs.Chosen.{shown_rows}
use Rattle.rj_engine.proofs.view.ViewRowSource.columns.Goals as goal

pub returns-clause-wide : goal.returns-clause-wide
returns-clause-wide c =
    let v = c.self.inside in rw (← c.self.view_is) (cells-wide v.left.now v.right.now v.shown.origins.items (shown_rows v.shown.chosen v.joined.now.members))
