use Rattle.std.specs.Prelude.{All}
use Rattle.rj_engine.specs.Chosen.{shown_rows}
use Rattle.rj_engine.specs.Shown.{StandsWithin, rows_between}
use Rattle.rj_engine.proofs.runs.end_of_run.Given as goal

abbrev pub invariant-loop-place : goal.invariant-loop-place
invariant-loop-place l = All (StandsWithin l.first l.end) (rows_between l.from l.place (shown_rows l.shown.chosen l.joined.members))
