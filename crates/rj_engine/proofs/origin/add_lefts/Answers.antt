use Rattle.std.proofs.Common.{not, None, rules}
use Rattle.std.specs.Prelude.{slice_index_or, is_some}
use Rattle.rj_engine.specs.declared.origin.Origin.TheVariants.{Left}
use Rattle.rj_engine.proofs.Grown.{grown}
use Rattle.rj_engine.proofs.origin.add_lefts.Goals as goal

pub loop-left-preserved : goal.loop-left-preserved
loop-left-preserved c =
    grown (λ i. Left i) (λ i. not (is_some (slice_index_or c.args.partners.now i None))) c.loop-left.left c.args.found.now.items c.loop-left.found.items c.add_if.new.found.items _ (search rules) c.loop-left.invariant c.in_ok-add_if.ensures
