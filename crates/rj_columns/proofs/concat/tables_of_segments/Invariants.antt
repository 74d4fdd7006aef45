use Rattle.std.proofs.Common.{◌≡◌, ◌++◌, [], map}
use Rattle.std.specs.Prelude.{All}
use Rattle.std.specs.Vec.Iter.{into_iter_items, into_iter_len}
use Rattle.rj_columns.specs.Internal.Placed.{segments_in}
use Rattle.rj_columns.specs.Internal.Segments.{AreSegments, table_in}
use Rattle.rj_columns.proofs.concat.tables_of_segments.Given as goal

abbrev pub invariant-loop-next : goal.invariant-loop-next
invariant-loop-next l = record {
  lawful : All (AreSegments l.names []) (segments_in (into_iter_items l.left));
  made : l.tables.items ++ map (table_in l.names []) (segments_in (into_iter_items l.left)) ≡ map (table_in l.names []) l.fn.segments;
}

abbrev pub decreases-loop-next : goal.decreases-loop-next
decreases-loop-next l = into_iter_len l.left
