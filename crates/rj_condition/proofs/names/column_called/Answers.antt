use Rattle.std.proofs.Common.{◌≡◌, ◌∙◌, sym, true, false}
use Rattle.std.specs.Str.{str_eq_ignore_ascii_case}
use Rattle.rj_condition.proofs.StepFacts.{place_found, place_next}
use Rattle.rj_condition.proofs.names.column_called.Goals as goal

pub returns-then-is_same_ignoring_case-clause-place : goal.returns-then-is_same_ignoring_case-clause-place
returns-then-is_same_ignoring_case-clause-place c =
    let is : str_eq_ignore_ascii_case c.args.called.now c.name.result.now ≡ true = sym c.is_same_ignoring_case.ensures ∙ c.if-is_same_ignoring_case.true in
    sym (c.loop-i.invariant.0 ∙ place_found (str_eq_ignore_ascii_case c.args.called.now) c.args.table.now.names c.loop-i.i c.name.result.now c.name.ensures is)

pub loop-i-preserved : goal.loop-i-preserved
loop-i-preserved c =
    let is : str_eq_ignore_ascii_case c.args.called.now c.name.result.now ≡ false = sym c.is_same_ignoring_case.ensures ∙ c.if-is_same_ignoring_case.false in
    (c.loop-i.invariant.0 ∙ place_next (str_eq_ignore_ascii_case c.args.called.now) c.args.table.now.names c.loop-i.i c.name.result.now c.name.ensures is, c.loop-i.invariant.1)
