use Rattle.std.proofs.Common.{◌%◌, ◌^◌, arith}
use Rattle.rj_columns.proofs.NumberTexts.{digits-rest, fraction-none, fraction-some}
use Rattle.rj_columns.proofs.decimal.text.put_fraction.Goals as goal

pub returns-then-scale-eq0-clause-text : goal.returns-then-scale-eq0-clause-text
returns-then-scale-eq0-clause-text c = fraction-none c.args.scale (c.args.size % 10 ^ c.args.scale) c.args.bytes.now c.if-scale-eq0.true (omega arith)

pub returns-clause-text : goal.returns-clause-text
returns-clause-text c =
    let digits = rw (c.from-digits.ensures, ← digits-rest c.args.scale c.args.size) at c.put_digits-whole.ensures.text in
    fraction-some c.args.scale (c.args.size % 10 ^ c.args.scale) _ _ c.args.bytes.now c.put_digits-whole.new.bytes c.if-scale-eq0.false (omega arith) (omega arith) (omega arith) (omega arith) (omega arith) digits
