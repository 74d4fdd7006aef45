use Rattle.std.proofs.Common.{◌≡◌, map, take, length}
use Rattle.rj_columns.specs.Contents.{content_of}
use Rattle.rj_columns.specs.Internal.Columns.{grown_by}
use Rattle.rj_columns.proofs.segment_builder.push_each.Given as goal

abbrev pub invariant-loop-i : goal.invariant-loop-i
invariant-loop-i l = record { state : l.columns.items ≡ grown_by (take l.i (map content_of l.cells)) l.fn.columns.items; end : l.i-end ≡ length l.cells }
