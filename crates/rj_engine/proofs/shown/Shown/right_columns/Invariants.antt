use Rattle.std.proofs.Common.{◌≡◌, drop, map, take}
use Rattle.rj_engine.specs.declared.origin.Origin.TheVariants as origin
use Rattle.rj_engine.proofs.shown.Shown.right_columns.Given as goal

abbrev pub invariant-loop-origin : goal.invariant-loop-origin
invariant-loop-origin l = map (λ b. origin.Right b) l.columns.items ≡ take l.origin-index (drop l.front l.self.origins.items)
