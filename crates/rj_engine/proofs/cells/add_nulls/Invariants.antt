use Rattle.std.proofs.Common.{◌≡◌, ◌++◌, map, take}
use Rattle.rj_columns.specs.Contents.{content_of, nothing}
use Rattle.rj_engine.proofs.cells.add_nulls.Given as goal

abbrev pub invariant-loop-row : goal.invariant-loop-row
invariant-loop-row l = map content_of l.cells.items ≡ map content_of l.fn.cells.items ++ map (λ i. nothing) (take l._row-index l.rows)
