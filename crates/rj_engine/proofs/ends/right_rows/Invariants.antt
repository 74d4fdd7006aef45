use Rattle.std.proofs.Common.{◌≡◌, map}
use Rattle.rj_engine.specs.Chosen.{shown_rows}
use Rattle.rj_engine.specs.Ends.{right_row}
use Rattle.rj_engine.specs.Shown.{rows_between}
use Rattle.rj_engine.proofs.ends.right_rows.Given as goal

abbrev pub invariant-loop-place : goal.invariant-loop-place
invariant-loop-place l = l.rows.items ≡ map (right_row l.none) (rows_between l.fn.run.from l.place (shown_rows l.shown.chosen l.joined.members))
