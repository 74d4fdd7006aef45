use Rattle.std.proofs.Common.{◌≡◌, ◌++◌, false, drop, map}
use Rattle.shards.specs.Explained.{without_own}
use Rattle.shards.proofs.explaining.words_of_join.Given as goal

abbrev pub invariant-loop-word : goal.invariant-loop-word
invariant-loop-word l =
    map (λ w. w.now) l.of_join.items ++ without_own l.is_own_value (map (λ w. w.now) (drop l.word-index l.words)) ≡ without_own false (map (λ w. w.now) l.words)
