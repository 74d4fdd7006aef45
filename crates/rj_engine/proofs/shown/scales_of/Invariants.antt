use Rattle.std.proofs.Common.{◌≡◌, map, take}
use Rattle.rj_engine.specs.Cells.{shown_scale}
use Rattle.rj_engine.proofs.shown.scales_of.Given as goal

abbrev pub invariant-loop-origin : goal.invariant-loop-origin
invariant-loop-origin l = l.scales.items ≡ map (shown_scale l.left l.right) (take l.origin-index l.columns)
