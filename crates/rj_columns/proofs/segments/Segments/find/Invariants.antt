use Rattle.std.proofs.Common.{◌<◌, ◌≤◌, ◌-◌, length}
use Rattle.rj_columns.specs.Internal.Placed.{rows_before}
use Rattle.rj_columns.proofs.segments.Segments.find.Given as goal

abbrev pub invariant-loop-at : goal.invariant-loop-at
invariant-loop-at l = (l.at < length l.self-inside.placed.items) × (rows_before l.self-inside.placed.items l.at ≤ l.row)

abbrev pub decreases-loop-at : goal.decreases-loop-at
decreases-loop-at l = length l.self-inside.placed.items - l.at
