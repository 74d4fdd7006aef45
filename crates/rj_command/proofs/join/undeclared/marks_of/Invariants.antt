use Rattle.std.proofs.Common.{◌≡◌, ◌++◌, drop, length, map}
use Rattle.rj_command.specs.Undeclared.{is_undeclared}
use Rattle.rj_command.proofs.join.undeclared.marks_of.Given as goal

abbrev pub invariant-loop-i : goal.invariant-loop-i
invariant-loop-i l =
    (l.marks.items ++ map (is_undeclared l.open_list l.entries) (drop l.i l.table.names) ≡ map (is_undeclared l.open_list l.entries) l.table.names)
    × (l.i-end ≡ length l.table.names)
