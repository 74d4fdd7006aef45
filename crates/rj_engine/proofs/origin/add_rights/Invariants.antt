use Rattle.std.proofs.Common.{◌≡◌, ◌++◌, map, filter, not}
use Rattle.std.specs.List.{list_any, range_with_len}
use Rattle.rj_engine.specs.Origins.{is_column}
use Rattle.rj_engine.specs.declared.origin.Origin.TheVariants.{Right}
use Rattle.rj_engine.proofs.origin.add_rights.Given as goal

abbrev pub invariant-loop-right : goal.invariant-loop-right
invariant-loop-right l = l.found.items ≡ l.fn.found.items ++ map (λ j. Right j) (filter (λ j. not (list_any (is_column j) l.partners)) (range_with_len 0 l.right))
