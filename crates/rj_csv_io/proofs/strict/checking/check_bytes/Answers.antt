use Rattle.std.proofs.Common.{◌<◌, ◌+◌, length, get_or, drop, sym, ◌∙◌, arith}
use Rattle.std.proofs.lemmas.List.{at_drop_more, at_drop_all}
use Rattle.rj_csv_io.specs.Internal.StrictSteps.{verdict}
use Rattle.rj_csv_io.proofs.StepFacts.{step-near, verdict-ok, verdict-err, verdict-end}
use Rattle.rj_csv_io.proofs.strict.checking.check_bytes.Goals as goal

pub returns-in-Err : goal.returns-in-Err
returns-in-Err c =
    let i = c.loop-i.i in
    let text = c.args.text.now in
    let within : i < length text = omega arith in
    let here = at_drop_more (verdict c.args.delimiter c.args.full c.loop-i.standing) text i 0 within in
    sym (sym c.loop-i.invariant.told ∙ here ∙ verdict-err c.args.delimiter c.args.full c.loop-i.standing c.in-Err.e (get_or text i 0) (drop (i + 1) text) c.in-Err.ensures)

pub loop-i-preserved : goal.loop-i-preserved
loop-i-preserved c =
    let i = c.loop-i.i in
    let text = c.args.text.now in
    let within : i < length text = omega arith in
    let here = at_drop_more (verdict c.args.delimiter c.args.full c.loop-i.standing) text i 0 within in
    let near = step-near c.args.delimiter c.loop-i.standing c.in-Ok.next (get_or text i 0) c.in-Ok.ensures in
    record {
      row = omega (arith, near.0, c.loop-i.invariant.row);
      column = omega (arith, near.1, c.loop-i.invariant.column);
      told = sym (verdict-ok c.args.delimiter c.args.full c.loop-i.standing c.in-Ok.next (get_or text i 0) (drop (i + 1) text) c.in-Ok.ensures) ∙ sym here ∙ c.loop-i.invariant.told;
    }

pub returns : goal.returns
returns c =
    let last = at_drop_all (verdict c.args.delimiter c.args.full c.loop-i.standing) c.args.text.now c.loop-i.i (omega arith) in
    c.finish.ensures ∙ sym (verdict-end c.args.delimiter c.args.full c.loop-i.standing) ∙ sym last ∙ c.loop-i.invariant.told
