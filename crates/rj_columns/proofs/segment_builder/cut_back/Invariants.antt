use Rattle.std.proofs.Common.{◌≡◌}
use Rattle.rj_columns.specs.Internal.Columns.{cut}
use Rattle.rj_columns.proofs.segment_builder.cut_back.Given as goal

abbrev pub invariant-loop-i : goal.invariant-loop-i
invariant-loop-i l = l.columns.items ≡ cut l.rows l.i l.fn.columns.items
