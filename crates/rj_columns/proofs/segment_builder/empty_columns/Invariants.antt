use Rattle.std.proofs.Common.{◌≡◌, map, take}
use Rattle.rj_columns.specs.Internal.Columns.{AreFull}
use Rattle.rj_columns.proofs.segment_builder.empty_columns.Given as goal

abbrev pub invariant-loop-kind : goal.invariant-loop-kind
invariant-loop-kind l = (map (λ c. c.kind) l.columns.items ≡ take l.kind-index l.types) × AreFull l.columns.items 0
