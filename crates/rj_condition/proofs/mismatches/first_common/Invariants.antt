use Rattle.std.proofs.Common.{◌≡◌, length, drop}
use Rattle.rj_condition.specs.Mismatches.{first_common}
use Rattle.rj_condition.proofs.mismatches.first_common.Given as goal

abbrev pub invariant-loop-i : goal.invariant-loop-i
invariant-loop-i l =
    (first_common l.left l.right l.i (drop l.i l.left.names) ≡ first_common l.left l.right 0 l.left.names) × (l.i-end ≡ length l.left.names)
