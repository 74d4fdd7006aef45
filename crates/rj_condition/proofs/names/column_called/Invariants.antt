use Rattle.std.proofs.Common.{◌≡◌, length, drop}
use Rattle.std.specs.List.{position_from}
use Rattle.std.specs.Str.{str_eq_ignore_ascii_case}
use Rattle.rj_condition.proofs.names.column_called.Given as goal

abbrev pub invariant-loop-i : goal.invariant-loop-i
invariant-loop-i l =
    (position_from (str_eq_ignore_ascii_case l.called) 0 l.table.names ≡ position_from (str_eq_ignore_ascii_case l.called) l.i (drop l.i l.table.names))
    × (l.i-end ≡ length l.table.names)
