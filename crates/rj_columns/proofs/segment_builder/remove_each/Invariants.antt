use Rattle.std.proofs.Common.{◌≡◌}
use Rattle.rj_columns.specs.Internal.Columns.{changed, without}
use Rattle.rj_columns.proofs.segment_builder.remove_each.Given as goal

abbrev pub invariant-loop-i : goal.invariant-loop-i
invariant-loop-i l = l.columns.items ≡ changed (without l.row) l.i l.fn.columns.items
