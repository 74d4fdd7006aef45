use Rattle.std.proofs.Common.{◌≡◌, ◌∙◌, ◌≤◌, ◌+◌, ◌*◌, true, drop, length, refl, ap, arith, rules}
use Rattle.std.specs.Prelude.{slice_index_or}
use Rattle.std.specs.Char.{digit_value, is_ascii_digit}
use Rattle.std.specs.Str.Parse.{digits_value_after}
use Rattle.std.proofs.lemmas.List.{at_drop_more, drop_more}
use Rattle.std.proofs.lemmas.Str.{digit_value_digit}
use Rattle.rj_columns.proofs.Digits.{room-below, room-less}
use Rattle.rj_columns.proofs.decimal.read.digits_after.Goals as goal

pub overflow_mul-value : goal.overflow_mul-value
overflow_mul-value c =
    let small = room-below c.loop-i.value 0 c.loop-i.i (length c.args.text.now) (omega arith) c.loop-i-test.true c.loop-i.invariant.room in
    omega (arith, small)

pub overflow_add-value : goal.overflow_add-value
overflow_add-value c =
    let digit : c.from.result ≤ 9 = omega (arith, c.from.ensures, c.if-not-is_ascii_digit.ensures.cases) in
    let small = room-below c.loop-i.value c.from.result c.loop-i.i (length c.args.text.now) digit c.loop-i-test.true c.loop-i.invariant.room in
    omega (arith, small)

pub loop-i-preserved : goal.loop-i-preserved
loop-i-preserved c =
    let text = c.args.text.now in
    let i = c.loop-i.i in
    let byte = slice_index_or text i 0 in
    let is_digit : is_ascii_digit byte ≡ true = search rules in
    let below : c.from.result ≤ 9 = omega (arith, c.from.ensures, c.if-not-is_ascii_digit.ensures.cases) in
    let digit : digit_value byte ≡ c.from.result = omega (arith, digit_value_digit byte c.if-not-is_ascii_digit.ensures.cases, c.from.ensures) in
    record {
      digits = c.loop-i.invariant.digits ∙ rw (drop_more text i 0 c.loop-i-test.true, is_digit) refl;
      value = c.loop-i.invariant.value ∙ (at_drop_more (digits_value_after 10 c.loop-i.value) text i 0 c.loop-i-test.true
          ∙ ap (λ d. digits_value_after 10 (c.loop-i.value * 10 + d) (drop (i + 1) text)) digit);
      room = room-less c.loop-i.value c.from.result i (length text) below c.loop-i-test.true c.loop-i.invariant.room;
      end = refl;
    }
