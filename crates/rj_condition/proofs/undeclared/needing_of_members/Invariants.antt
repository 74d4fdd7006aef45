use Rattle.std.proofs.Common.{◌≡◌, drop}
use Rattle.rj_condition.specs.Undeclared.{first_some, marked, needing_of}
use Rattle.rj_condition.specs.declared.tree.Comparison.TheVariants.{Equal}
use Rattle.rj_condition.proofs.undeclared.needing_of_members.Given as goal

abbrev pub invariant-loop-member : goal.invariant-loop-member
invariant-loop-member l =
    first_some (needing_of (marked l.left) (marked l.right) Equal l.operand) (drop l.member-index l.members) ≡ first_some (needing_of (marked l.left) (marked l.right) Equal l.operand) l.members
