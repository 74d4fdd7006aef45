use Rattle.std.proofs.Common.{◌≡◌, length, drop}
use Rattle.rj_condition.specs.Undeclared.{first_some, marked, needing_called}
use Rattle.rj_condition.proofs.undeclared.needing_in_common.Given as goal

abbrev pub invariant-loop-i : goal.invariant-loop-i
invariant-loop-i l =
    (first_some (needing_called (marked l.left) (marked l.right)) (drop l.i l.left.table.now.names) ≡ first_some (needing_called (marked l.left) (marked l.right)) l.left.table.now.names)
    × (l.i-end ≡ length l.left.table.now.names)
