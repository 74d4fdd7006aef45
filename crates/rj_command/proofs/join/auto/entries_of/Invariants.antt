use Rattle.std.proofs.Common.{◌≡◌, ◌++◌, drop, length}
use Rattle.rj_command.specs.Auto.{compares, entries_from, table_of}
use Rattle.rj_command.proofs.join.auto.entries_of.Given as goal

abbrev pub invariant-loop-i : goal.invariant-loop-i
invariant-loop-i l =
    (l.entries.items ++ entries_from l.request l.side (compares l.compared.left.now l.compared.right.now l.compared.clause.now l.side) l.kinds l.i
    (drop l.i (table_of l.compared.left.now l.compared.right.now l.side).names)
    ≡ entries_from l.request l.side (compares l.compared.left.now l.compared.right.now l.compared.clause.now l.side) l.kinds 0
    (table_of l.compared.left.now l.compared.right.now l.side).names)
    × (l.i-end ≡ length (table_of l.compared.left.now l.compared.right.now l.side).names)
