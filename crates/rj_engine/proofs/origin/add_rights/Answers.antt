use Rattle.std.proofs.Common.{not, rules}
use Rattle.std.specs.List.{list_any}
use Rattle.rj_engine.specs.Origins.{is_column}
use Rattle.rj_engine.specs.declared.origin.Origin.TheVariants.{Right}
use Rattle.rj_engine.proofs.Grown.{grown}
use Rattle.rj_engine.proofs.origin.add_rights.Goals as goal

pub loop-right-preserved : goal.loop-right-preserved
loop-right-preserved c =
    grown (λ j. Right j) (λ j. not (list_any (is_column j) c.args.partners.now)) c.loop-right.right c.args.found.now.items c.loop-right.found.items c.add_if.new.found.items _ (search rules) c.loop-right.invariant c.in_ok-add_if.ensures
