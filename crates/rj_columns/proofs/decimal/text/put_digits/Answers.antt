use Rattle.std.proofs.Common.{◌+◌, ◌-◌, ◌/◌, ◌∙◌, ap, arith}
use Rattle.rj_columns.proofs.NumberTexts.{digits-end, digits-step, tenth-more, written}
use Rattle.rj_columns.proofs.decimal.text.put_digits.Goals as goal

pub loop-i-preserved : goal.loop-i-preserved
loop-i-preserved c =
    let at = c.args.end - c.loop-i.i in
    let next = c.args.end - (c.loop-i.i + 1) in
    let split = c.split_digit-tenth.ensures in
    let step = digits-step (c.args.count - c.loop-i.i) (c.args.count - (c.loop-i.i + 1)) c.loop-i.rest (omega arith) in
    record {
      rest = split.rest ∙ (ap (λ n. n / 10) c.loop-i.invariant.rest ∙ tenth-more c.args.number c.loop-i.i);
      text = rw (split.rest, split.digit) (written _ _ _ at next (c.args.end - 1 - c.loop-i.i) _ c.loop-i.bytes (omega arith) (omega arith) (omega arith) step c.loop-i.invariant.text);
    }

pub returns-clause-text : goal.returns-clause-text
returns-clause-text c = digits-end _ (c.args.count - c.loop-i.i) c.loop-i.rest (c.args.end - c.loop-i.i) (c.args.end - c.args.count) c.loop-i.bytes (omega arith) (omega arith) c.loop-i.invariant.text
