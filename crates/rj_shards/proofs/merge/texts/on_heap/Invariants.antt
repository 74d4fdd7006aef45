use Rattle.std.proofs.Common.{◌≡◌, ◌++◌, map}
use Rattle.std.specs.Box.{box_value}
use Rattle.std.specs.Vec.Iter.{into_iter_items, into_iter_len}
use Rattle.rj_shards.proofs.merge.texts.on_heap.Given as goal

abbrev pub invariant-sources : goal.invariant-sources
invariant-sources g l = map box_value l.all.items ++ into_iter_items l.left ≡ l.fn.sources.items

abbrev pub decreases-sources : goal.decreases-sources
decreases-sources g l = into_iter_len l.left
