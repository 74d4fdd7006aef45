use Rattle.std.proofs.Common.{◌≡◌, ◌∙◌, ◌<◌, ◌+◌, ◌^◌, length, refl, take, true, arith, rules}
use Rattle.std.specs.Prelude.{slice_index_or}
use Rattle.std.specs.Char.{is_ascii_digit}
use Rattle.std.specs.Str.Parse.{digits_value}
use Rattle.std.proofs.lemmas.Int.Digits.{digits_value_more}
use Rattle.std.proofs.lemmas.List.{drop_more}
use Rattle.std.proofs.lemmas.Str.{digit_value_digit}
use Rattle.rj_shards.proofs.NumberFacts.{number-over, number-read}
use Rattle.rj_shards.proofs.merge.number.whole_number.Goals as goal

pub loop-i-preserved : goal.loop-i-preserved
loop-i-preserved c =
    let inside : c.loop-i.i < length c.args.field.now = omega (arith, c.loop-i.invariant.end, c.loop-i-test.true) in
    let byte = slice_index_or c.args.field.now c.loop-i.i 0 in
    let is_digit : is_ascii_digit byte ≡ true = search rules in
    let digit = digit_value_digit byte c.if-not-is_ascii_digit.ensures.cases in
    let more = digits_value_more 10 c.args.field.now c.loop-i.i inside in
    record {
      some = c.loop-i.invariant.some;
      value = omega (arith, c.loop-i.invariant.value, more, digit, c.in_ok-value.ensures.some, c.from.ensures);
      digits = c.loop-i.invariant.digits ∙ rw (drop_more c.args.field.now c.loop-i.i 0 inside, is_digit) refl;
      small = omega arith;
      end = c.loop-i.invariant.end;
    }

pub returns : goal.returns
returns c =
    let inv = c.loop-i.invariant in
    let read = number-read c.args.field.now c.loop-i.i c.loop-i.value inv.some (omega (arith, inv.end, c.loop-i-test.false)) inv.digits inv.value inv.small in
    rw (read.0, read.1) refl

pub returns-in_err-value : goal.returns-in_err-value
returns-in_err-value c =
    let inside : c.loop-i.i < length c.args.field.now = omega (arith, c.loop-i.invariant.end, c.loop-i-test.true) in
    let digit = digit_value_digit (slice_index_or c.args.field.now c.loop-i.i 0) c.if-not-is_ascii_digit.ensures.cases in
    let more = digits_value_more 10 c.args.field.now c.loop-i.i inside in
    let over : ¬ (digits_value 10 (take (c.loop-i.i + 1) c.args.field.now) < 2 ^ 64) = λ small. (let past = c.in_err-value.ensures.none refl in omega (arith, c.loop-i.invariant.value, more, digit, past, c.from.ensures, small)) in
    rw (c.from_residual.ensures, number-over c.args.field.now (c.loop-i.i + 1) over) refl
