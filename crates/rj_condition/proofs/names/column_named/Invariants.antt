use Rattle.std.proofs.Common.{◌≡◌, length, drop}
use Rattle.std.specs.List.{position_from}
use Rattle.rj_condition.specs.Names.{matches}
use Rattle.rj_condition.proofs.names.column_named.Given as goal

abbrev pub invariant-loop-i : goal.invariant-loop-i
invariant-loop-i l =
    (position_from (matches l.name) 0 l.table.names ≡ position_from (matches l.name) l.i (drop l.i l.table.names))
    × (l.i-end ≡ length l.table.names)
