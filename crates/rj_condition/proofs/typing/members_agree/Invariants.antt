use Rattle.std.proofs.Common.{◌≡◌, drop}
use Rattle.std.specs.List.{list_all}
use Rattle.rj_condition.specs.Fits.{are_one_family, family_of}
use Rattle.rj_condition.proofs.typing.members_agree.Given as goal

abbrev pub invariant-loop-member : goal.invariant-loop-member
invariant-loop-member l =
    list_all (λ m. are_one_family l.operand (family_of l.left.types l.right.types m)) (drop l.member-index l.members) ≡ list_all
    (λ m. are_one_family l.operand (family_of l.left.types l.right.types m)) l.members
