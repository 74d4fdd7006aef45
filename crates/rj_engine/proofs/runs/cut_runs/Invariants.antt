use Rattle.std.proofs.Common.{◌≤◌, ◌-◌, length}
use Rattle.std.specs.Prelude.{All}
use Rattle.rj_engine.specs.Chosen.{shown_rows}
use Rattle.rj_engine.specs.Shown.{Follow, IsRunOf}
use Rattle.rj_engine.proofs.runs.cut_runs.Given as goal

abbrev pub invariant-loop-place : goal.invariant-loop-place
invariant-loop-place l = record {
  within : l.place ≤ length (shown_rows l.shown.chosen l.joined.members);
  follow : Follow 0 l.place l.runs.items;
  each : All (IsRunOf l.segments (shown_rows l.shown.chosen l.joined.members)) l.runs.items;
}

abbrev pub decreases-loop-place : goal.decreases-loop-place
decreases-loop-place l = length (shown_rows l.shown.chosen l.joined.members) - l.place
