use Rattle.std.proofs.Common.{◌≡◌, ◌++◌, map, filter, not, None}
use Rattle.std.specs.Prelude.{slice_index_or, is_some}
use Rattle.std.specs.List.{range_with_len}
use Rattle.rj_engine.specs.declared.origin.Origin.TheVariants.{Left}
use Rattle.rj_engine.proofs.origin.add_lefts.Given as goal

abbrev pub invariant-loop-left : goal.invariant-loop-left
invariant-loop-left l = l.found.items ≡ l.fn.found.items ++ map (λ i. Left i) (filter (λ i. not (is_some (slice_index_or l.partners i None))) (range_with_len 0 l.left))
