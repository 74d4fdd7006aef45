use Rattle.std.proofs.Common.{◌≡◌, ◌+◌, ◌<◌, ◌≤◌, drop, length}
use Rattle.std.specs.Prelude.{sum}
use Rattle.rj_condition.specs.Nesting.{is_deep_from, is_deep}
use Rattle.rj_condition.proofs.nesting.too_deep.Given as goal

abbrev pub invariant-loop-token : goal.invariant-loop-token
invariant-loop-token l =
    (is_deep_from l.runs.items (drop l.token-index l.tokens) ≡ is_deep l.tokens)
    × (0 < length l.runs.items) × (length l.runs.items + sum l.runs.items ≤ 65)
