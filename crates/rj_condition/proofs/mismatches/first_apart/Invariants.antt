use Rattle.std.proofs.Common.{◌≡◌, ◌<◌, ℕ, None}
use Rattle.std.specs.List.{list_any}
use Rattle.rj_condition.specs.Mismatches.{differ_from}
use Rattle.rj_condition.specs.Refusals.{is_using}
use Rattle.rj_condition.proofs.mismatches.first_apart.Given as goal

abbrev pub invariant-loop-i : goal.invariant-loop-i
invariant-loop-i l = (k : ℕ) → k < l.i → differ_from (list_any is_using l.tokens) l.left l.right l.tokens k ≡ None
