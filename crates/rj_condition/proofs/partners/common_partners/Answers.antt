use Rattle.std.proofs.Common.{◌≡◌, ◌∙◌, sym, ap, rules, arith, true, length-append}
use Rattle.std.specs.Result.{is_ok}
use Rattle.rj_condition.specs.Partners.{natural_partner}
use Rattle.rj_condition.proofs.NaturalFacts.{natural_next, natural_fault}
use Rattle.rj_condition.proofs.PairFacts.{fit_push}
use Rattle.rj_condition.proofs.partners.common_partners.Goals as goal

pub returns-in-Err-clause-err : goal.returns-in-Err-clause-err
returns-in-Err-clause-err c = λ _.
    let is = sym (c.common_column.ensures.partner ∙ ap (natural_partner c.args.left.now c.args.right.now c.loop-i.i) c.column_called-found.ensures.place) ∙ c.in-Err.is in
    c.loop-i.invariant.0 ∙ natural_fault c.args.left.now c.args.right.now c.loop-i.partners.items c.loop-i.i c.name.result.now c.in-Err.e c.name.ensures c.loop-i.invariant.1 is

pub loop-i-preserved : goal.loop-i-preserved
loop-i-preserved c =
    let is = sym (c.common_column.ensures.partner ∙ ap (natural_partner c.args.left.now c.args.right.now c.loop-i.i) c.column_called-found.ensures.place) ∙ c.in-Ok.is in
    let good : is_ok c.push.result ≡ true = search rules in
    let items = rw good at c.push.ensures.items in
    let next = natural_next c.args.left.now c.args.right.now c.loop-i.partners.items c.loop-i.i c.name.result.now c.in-Ok.partner c.name.ensures c.loop-i.invariant.1 is in (
      rw items (c.loop-i.invariant.0 ∙ next),
      rw items (rw length-append (omega (arith, c.loop-i.invariant.1))),
      rw items (fit_push c.args.left.now.types c.args.right.now.types c.loop-i.i c.loop-i.partners.items c.in-Ok.partner c.loop-i.invariant.1 c.loop-i.invariant.2 c.in-Ok.ensures.fits),
      c.loop-i.invariant.3,
    )
