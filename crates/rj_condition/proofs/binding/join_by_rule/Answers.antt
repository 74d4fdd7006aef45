use Rattle.std.proofs.Common.{◌≡◌, ◌∙◌, sym, ap, subst, replicate, None, true}
use Rattle.rj_condition.specs.Fits.{fits}
use Rattle.rj_condition.proofs.FitFacts.{fits_alone}
use Rattle.rj_condition.proofs.binding.join_by_rule.Goals as goal

pub returns-in-Ok-clause-fits : goal.returns-in-Ok-clause-fits
returns-in-Ok-clause-fits c right h =
    let l = c.args.left.now.types in
    let is = c.from_vec.ensures ∙ c.in-Ok.ensures ∙ ap (λ n. replicate n None) c.columns.ensures.count in
    subst (λ ps. fits record { kind = c.args.kind; partners = ps; rule = c.args.rule } l right ≡ true) (sym is) (fits_alone c.args.kind c.args.rule l right h)
