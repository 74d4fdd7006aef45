use Rattle.std.proofs.Common.{◌≡◌, Some, map}
use Rattle.rj_command.proofs.join.texts.shares_of.Given as goal

abbrev pub invariant-loop-segment : goal.invariant-loop-segment
invariant-loop-segment l = map (λ s. s.segment) l.shares.items ≡ map (λ t. Some t) l.yielded
