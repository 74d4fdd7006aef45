use Rattle.std.proofs.Common.{◌∙◌, ap, sym, subst, Option, Some, IfOk, IsTrue, ◌↔◌}
use Rattle.rj_settings.specs.declared.expectation.Matching.{Matching}
use Rattle.rj_engine.specs.Expected.{AreMatched}
use Rattle.rj_engine.proofs.expected.are_matched.Goals as goal

pub returns-in-ManyToOne : goal.returns-in-ManyToOne
returns-in-ManyToOne c =
    let is = c.in-Some.is ∙ ap Some c.in-ManyToOne.is in
    subst (λ (m : Option Matching). IfOk c.are_distinct.result (λ b. IsTrue b ↔ AreMatched m c.args.pairs.now)) (sym is) c.are_distinct.ensures

pub returns-in-OneToMany : goal.returns-in-OneToMany
returns-in-OneToMany c =
    let is = c.in-Some.is ∙ ap Some c.in-OneToMany.is in
    subst (λ (m : Option Matching). IfOk c.are_distinct-in-OneToMany.result (λ b. IsTrue b ↔ AreMatched m c.args.pairs.now)) (sym is) c.are_distinct-in-OneToMany.ensures
