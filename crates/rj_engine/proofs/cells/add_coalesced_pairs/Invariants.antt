use Rattle.std.proofs.Common.{◌≡◌, ◌-◌, ◌++◌, map, take}
use Rattle.rj_columns.specs.Contents.{content_of}
use Rattle.rj_columns.specs.Scales.{coalesced, in_scale}
use Rattle.rj_columns.specs.Tables.{cell_of}
use Rattle.rj_engine.proofs.cells.add_coalesced_pairs.Given as goal

abbrev pub invariant-loop-pair : goal.invariant-loop-pair
invariant-loop-pair l = map content_of l.cells.items ≡ map content_of l.fn.cells.items ++ map (λ p. in_scale l.scale (coalesced (cell_of l.left (p.0 - l.first) l.a) (cell_of l.right p.1 l.b))) (take l.pair-index l.pairs)
