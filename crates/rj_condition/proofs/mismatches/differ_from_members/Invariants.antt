use Rattle.std.proofs.Common.{◌≡◌, drop}
use Rattle.rj_condition.specs.Mismatches.{differ, first_of}
use Rattle.rj_condition.proofs.mismatches.differ_from_members.Given as goal

abbrev pub invariant-loop-member : goal.invariant-loop-member
invariant-loop-member l =
    first_of (differ l.left l.right l.operand) (drop l.member-index l.members) ≡ first_of (differ l.left l.right l.operand) l.members
