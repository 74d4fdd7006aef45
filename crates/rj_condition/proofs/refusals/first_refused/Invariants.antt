use Rattle.std.proofs.Common.{◌≡◌, ◌<◌, ℕ, None}
use Rattle.std.specs.List.{list_any}
use Rattle.rj_condition.specs.Refusals.{is_using, refusal_at}
use Rattle.rj_condition.proofs.refusals.first_refused.Given as goal

abbrev pub invariant-loop-i : goal.invariant-loop-i
invariant-loop-i l = (k : ℕ) → k < l.i → refusal_at (list_any is_using l.tokens) l.left.names l.right.names l.tokens k ≡ None
