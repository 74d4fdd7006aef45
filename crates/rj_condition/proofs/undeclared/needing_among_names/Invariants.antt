use Rattle.std.proofs.Common.{◌≡◌, drop}
use Rattle.rj_condition.specs.Undeclared.{first_some, marked, needing_named}
use Rattle.rj_condition.proofs.undeclared.needing_among_names.Given as goal

abbrev pub invariant-loop-name : goal.invariant-loop-name
invariant-loop-name l = first_some (needing_named (marked l.left) (marked l.right)) (drop l.name-index l.names) ≡ first_some (needing_named (marked l.left) (marked l.right)) l.names
