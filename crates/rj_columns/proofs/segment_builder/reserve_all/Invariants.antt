use Rattle.std.proofs.Common.{◌≡◌, length}
use Rattle.rj_columns.proofs.segment_builder.reserve_all.Given as goal

abbrev pub invariant-loop-i : goal.invariant-loop-i
invariant-loop-i l = record { state : l.columns.items ≡ l.fn.columns.items; end : l.i-end ≡ length l.fn.columns.items }
