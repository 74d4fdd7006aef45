use Rattle.std.proofs.Common.{◌∙◌, subst, sym}
use Rattle.std.proofs.lemmas.Bool.{and_parts}
use Rattle.rj_csv_io.specs.Ambiguous.{AreApart}
use Rattle.rj_engine.specs.Cells.{ViewValue}
use Rattle.rj_command.specs.Runs.{IsToldApart}
use Rattle.rj_command.proofs.ApartFacts.{view-apart}
use Rattle.rj_command.proofs.join.running.choose.Goals as goal

pub tell_apart-requires-clause-apart : goal.tell_apart-requires-clause-apart
tell_apart-requires-clause-apart c = λ both.
    let l = c.args.operands.now.left in
    let r = c.args.operands.now.right in
    let null = c.args.request.now.out_null.now in
    let sides = and_parts _ _ both in
    subst (λ (v : ViewValue). AreApart null v.cells) (sym (c.whole.ensures ∙ c.in_ok-shown.ensures.view))
    (view-apart null l r (c.requires.apart.0 sides.0) (c.requires.apart.1 sides.1) c.args.request.now.choice c.args.operands.now.join)

pub returns-clause-chosen : goal.returns-clause-chosen
returns-clause-chosen c =
    let null = c.args.request.now.out_null.now in
    let strict = c.args.request.now.strict in
    record {
      there = c.in_ok-shown.ensures.there;
      shown = c.in_ok-shown.ensures.view;
      told_apart = subst (λ (v : ViewValue). IsToldApart strict null v.cells) (c.whole.ensures ∙ c.in_ok-shown.ensures.view) c.in_ok-tell_apart.ensures.clear;
    }
