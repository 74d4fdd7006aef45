use Rattle.std.proofs.Common.{◌≡◌, map, take}
use Rattle.rj_engine.specs.Internal.Marks.{row_on}
use Rattle.rj_engine.proofs.violations.rows_on.Given as goal

abbrev pub invariant-loop-place : goal.invariant-loop-place
invariant-loop-place l = l.rows.items ≡ map (row_on l.side) (take l.place l.pairs)
