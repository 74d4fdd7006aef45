use Rattle.std.proofs.Common.{◌≡◌, Ok, map}
use Rattle.rj_command.proofs.join.texts.all_made.Given as goal

abbrev pub invariant-loop-share : goal.invariant-loop-share
invariant-loop-share l = map (λ s. s.texts) l.yielded ≡ map (λ t. Ok t) l.made.items
