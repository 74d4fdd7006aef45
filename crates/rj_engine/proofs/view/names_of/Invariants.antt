use Rattle.std.proofs.Common.{◌≡◌, map, take}
use Rattle.rj_engine.specs.Cells.{name_of}
use Rattle.rj_engine.proofs.view.names_of.Given as goal

abbrev pub invariant-loop-origin : goal.invariant-loop-origin
invariant-loop-origin l = map (λ n. n.now) l.names.items ≡ map (name_of l.left l.right) (take l.origin-index l.columns)
