use Rattle.std.proofs.Common.{◌≡◌, ◌++◌}
use Rattle.std.specs.Vec.Iter.{into_iter_items, into_iter_len}
use Rattle.rj_columns.specs.Internal.Placed.{segments_in}
use Rattle.rj_columns.proofs.segments.Segments.append.Given as goal

abbrev pub invariant-loop-next : goal.invariant-loop-next
invariant-loop-next l = l.self ++ segments_in (into_iter_items l.left) ≡ l.fn.self ++ l.fn.other

abbrev pub decreases-loop-next : goal.decreases-loop-next
decreases-loop-next l = into_iter_len l.left
