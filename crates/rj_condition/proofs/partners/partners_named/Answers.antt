use Rattle.std.proofs.Common.{◌<◌, ◌∙◌, ap, length, arith}
use Rattle.std.proofs.Math.ListN.{length-set}
use Rattle.rj_condition.proofs.UsingFacts.{using_next}
use Rattle.std.proofs.lemmas.Grind.{common_steps}
use Rattle.rj_condition.proofs.PairFacts.{fit_set, fit_none}
use Rattle.rj_condition.proofs.partners.partners_named.Goals as goal

pub loop-name-init : goal.loop-name-init
loop-name-init c = grind (arith, common_steps, fit_none c.args.left.now.types c.args.right.now.types (c.columns.result))

pub loop-name-preserved : goal.loop-name-preserved
loop-name-preserved c =
    let l = c.args.left.now in
    let r = c.args.right.now in
    let ps = c.loop-name.partners.items in
    let within : c.in_ok-i.i < length ps = omega (arith, c.in_ok-i.ensures.within, ap length c.deref.ensures.value) in (
      c.loop-name.invariant.0
          ∙ using_next l r ps c.deref.result.now c.args.names.now c.loop-name.name-index c.name-item.result c.in_ok-i.i c.in_ok-i.j c.loop-name-test.true c.name-item.is c.deref.ensures.value c.in_ok-i.ensures.pair,
      simp length-set c.loop-name.invariant.1,
      fit_set l.types r.types ps c.in_ok-i.i c.in_ok-i.j within c.in_ok-i.ensures.fits c.loop-name.invariant.2,
    )
