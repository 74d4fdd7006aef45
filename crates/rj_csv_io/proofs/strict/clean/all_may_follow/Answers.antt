use Rattle.std.proofs.Common.{sym, ◌∙◌, length}
use Rattle.std.proofs.lemmas.Bool.{eqb-true, or_parts}
use Rattle.rj_csv_io.proofs.CleanFacts.{follow-empty, follow-one, follow-at}
use Rattle.rj_csv_io.proofs.strict.clean.all_may_follow.Goals as goal

pub returns-then-is_empty : goal.returns-then-is_empty
returns-then-is_empty c = λ _. follow-empty c.args.before c.args.text.now (eqb-true (length c.args.text.now) 0 (sym c.is_empty.ensures ∙ c.if-is_empty.true))

pub loop-i-init : goal.loop-i-init
loop-i-init c = λ e. follow-one c.args.before c.args.text.now (sym c.is_empty.ensures ∙ c.if-is_empty.false) (sym c.is_bad-bad.ensures ∙ e)

pub loop-i-preserved : goal.loop-i-preserved
loop-i-preserved c = λ e.
    let parts = or_parts c.loop-i.bad c.is_bad-bad-in-loop-i.result e in
    follow-at c.args.before c.args.text.now c.loop-i.i c.loop-i.auto.i c.loop-i-test.true (c.loop-i.invariant parts.0) (sym c.is_bad-bad-in-loop-i.ensures ∙ parts.1)
