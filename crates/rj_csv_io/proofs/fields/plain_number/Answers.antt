use Rattle.std.proofs.Common.{◌≡◌, ◌∙◌, ◌<◌, ◌≤◌, ◌^◌, length, pos, w64, refl, true, ap, arith, rules}
use Rattle.std.specs.Prelude.{slice_index_or}
use Rattle.std.specs.Char.{is_ascii_digit}
use Rattle.std.specs.Str.{all_ascii_digits}
use Rattle.std.specs.Str.Parse.{digits_value, signed_digits_value}
use Rattle.std.proofs.lemmas.Int.Digits.{digits_value_more}
use Rattle.std.proofs.lemmas.Bool.Decides.{nat_tests}
use Rattle.std.proofs.lemmas.Int.{to_z_pos}
use Rattle.std.proofs.lemmas.List.{drop_all, drop_more, take_all}
use Rattle.std.proofs.lemmas.Nat.{pow-add}
use Rattle.std.proofs.lemmas.Str.{digit_value_digit}
use Rattle.std.proofs.Math.Nat.{pow-le-pow_right}
use Rattle.rj_csv_io.specs.Typed.{is_int_text}
use Rattle.rj_csv_io.proofs.TypedFacts.{plain-int}
use Rattle.rj_csv_io.proofs.fields.plain_number.Goals as goal

pub loop-i-preserved : goal.loop-i-preserved
loop-i-preserved c =
    let inside : c.loop-i.i < length c.args.field.now = omega (arith, c.loop-i.invariant.end, c.loop-i-test.true) in
    let byte = slice_index_or c.args.field.now c.loop-i.i 0 in
    let is_digit : is_ascii_digit byte ≡ true = search rules in
    let digit = digit_value_digit byte c.if-not-is_ascii_digit.ensures.cases in
    let more = digits_value_more 10 c.args.field.now c.loop-i.i inside in
    record {
      value = omega (arith, c.loop-i.invariant.value, more, digit);
      digits = c.loop-i.invariant.digits ∙ rw (drop_more c.args.field.now c.loop-i.i 0 inside, is_digit) refl;
      small = omega (arith, c.loop-i.invariant.small, digit, c.if-not-is_ascii_digit.ensures.cases, pow-add 10 c.loop-i.i 1);
      end = c.loop-i.invariant.end;
    }

pub overflow_mul-value : goal.overflow_mul-value
overflow_mul-value c =
    let some : 0 < 10 = omega arith in
    let few : c.loop-i.i ≤ 17 = omega (arith, c.loop-i.invariant.end, c.loop-i-test.true) in
    let power : 10 ^ c.loop-i.i ≤ 10 ^ 17 = pow-le-pow_right some few in
    omega (arith, c.loop-i.invariant.small, power)

pub overflow_add-value : goal.overflow_add-value
overflow_add-value c =
    let some : 0 < 10 = omega arith in
    let few : c.loop-i.i ≤ 17 = omega (arith, c.loop-i.invariant.end, c.loop-i-test.true) in
    let power : 10 ^ c.loop-i.i ≤ 10 ^ 17 = pow-le-pow_right some few in
    omega (arith, c.loop-i.invariant.small, power, c.from.ensures, c.if-not-is_ascii_digit.ensures.cases)

pub overflow_cast-result : goal.overflow_cast-result
overflow_cast-result c =
    let some : 0 < 10 = omega arith in
    let few : c.loop-i.i ≤ 18 = omega arith in
    let power : 10 ^ c.loop-i.i ≤ 10 ^ 18 = pow-le-pow_right some few in
    omega (arith, c.loop-i.invariant.small, power)

-- what the digits write, and that it is in range
plain : (c : goal.After-loop-i) → (pos c.loop-i.value ≡ signed_digits_value 10 c.args.field.now) × (is_int_text c.args.field.now ≡ true) × (c.loop-i.value < 2 ^ 63)
plain c =
    let field = c.args.field.now in
    let some : 0 < 10 = omega arith in
    let few : c.loop-i.i ≤ 18 = omega arith in
    let power : 10 ^ c.loop-i.i ≤ 10 ^ 18 = pow-le-pow_right some few in
    let small : c.loop-i.value < 2 ^ 63 = omega (arith, c.loop-i.invariant.small, power) in
    let nonempty : 0 < length field = grind (arith, nat_tests, c.if-is_empty.ensures) in
    let digits = c.loop-i.invariant.digits ∙ ap all_ascii_digits (drop_all c.loop-i.i field c.loop-i-test.false) in
    let value = c.loop-i.invariant.value ∙ ap (digits_value 10) (take_all c.loop-i.i field c.loop-i-test.false) in
    let int = plain-int field c.loop-i.value nonempty digits value small in
    (int.0, int.1, small)

pub returns-clause-number : goal.returns-clause-number
returns-clause-number c = to_z_pos w64 c.loop-i.value (plain c).2 ∙ (plain c).0

pub returns-clause-digits : goal.returns-clause-digits
returns-clause-digits c = (plain c).1
