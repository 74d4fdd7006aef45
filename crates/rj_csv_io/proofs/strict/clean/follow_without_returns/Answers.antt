use Rattle.std.proofs.Common.{◌==◌, ◌&&◌, ◌-◌, sym, ◌∙◌, length, get_or, arith}
use Rattle.std.proofs.lemmas.Bool.{eqb-true, or_parts}
use Rattle.rj_csv_io.specs.Grammar.{lf}
use Rattle.rj_csv_io.proofs.CleanFacts.{follow-empty, follow-one, follow-at, plain-pair}
use Rattle.rj_csv_io.proofs.strict.clean.follow_without_returns.Goals as goal

pub returns-then-is_empty : goal.returns-then-is_empty
returns-then-is_empty c = λ _. follow-empty c.args.before c.args.text.now (eqb-true (length c.args.text.now) 0 (sym c.is_empty.ensures ∙ c.if-is_empty.true))

pub loop-i-init : goal.loop-i-init
loop-i-init c = λ e. follow-one c.args.before c.args.text.now (sym c.is_empty.ensures ∙ c.if-is_empty.false) (sym c.is_bad-bad.ensures ∙ e)

pub loop-i-preserved : goal.loop-i-preserved
loop-i-preserved c = λ e.
    let text = c.args.text.now in
    let i = c.loop-i.i in
    let here = c.loop-i-test.true in
    let before = get_or text (i - 1) 0 in
    let byte = get_or text i 0 in
    let parts = or_parts c.loop-i.bad ((before == lf) && (byte == lf)) e in
    let pair = plain-pair before byte (c.requires.quotes i here) (c.requires.returns i here) (c.requires.returns (i - 1) (omega (arith, here))) parts.1 in
    follow-at c.args.before text i c.loop-i.auto.i here (c.loop-i.invariant parts.0) pair
