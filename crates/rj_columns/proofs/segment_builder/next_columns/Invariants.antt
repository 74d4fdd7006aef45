use Rattle.std.proofs.Common.{◌≡◌, map, take}
use Rattle.rj_columns.specs.Internal.Columns.{AreFull}
use Rattle.rj_columns.proofs.segment_builder.next_columns.Given as goal

abbrev pub invariant-loop-column : goal.invariant-loop-column
invariant-loop-column l = (map (λ c. c.kind) l.next.items ≡ map (λ c. c.kind) (take l.column-index l.columns.items)) × AreFull l.next.items 0
