use Rattle.std.proofs.Common.{◌≡◌, ◌++◌, ◌∙◌, ap, sym, arith, length, refl}
use Rattle.std.proofs.Math.Facts.{to_z-of_z}
use Rattle.std.specs.Str.Parse.{without_leading_sign, signed_digits_value}
use Rattle.rj_condition.specs.Internal.Scanning.{is_integer}
use Rattle.rj_condition.proofs.Integers.{parsed-ok, parsed-err}
use Rattle.rj_condition.proofs.DecimalParts.{parts_ok, parts_err}
use Rattle.rj_condition.proofs.lexer.decimal_of_parts.Goals as goal

pub returns-in-Ok : goal.returns-in-Ok
returns-in-Ok c =
    let text : c.as_str.result.now ≡ c.args.before.now ++ c.args.after.now = c.as_str.ensures.value ∙ c.in_ok-push_str.ensures.bytes ∙ ap (λ z. z ++ c.args.after.now) c.in_ok-digits.ensures.ok in
    let read = parsed-ok c.as_str.result.now c.parse.result c.in-Ok.units c.parse.ensures.value.0 c.in-Ok.is in
    let same = ap (λ z. length (without_leading_sign z)) c.as_bytes.ensures.value in
    let len = ap length c.as_bytes.ensures.value in
    c.decimal_of.ensures
    ∙ parts_ok c.args.before.now c.args.after.now _ _ (ap is_integer (sym text) ∙ read.0) (omega (arith, same, len, c.sign_len.ensures, c.if-whole-eq0.false))
    (omega (arith, same, len, c.sign_len.ensures, c.if-whole-after.false, c.if-after-gt18.false))
    (to_z-of_z read.2 ∙ read.1 ∙ ap (signed_digits_value 10) text) refl

pub returns : goal.returns
returns c =
    let text : c.as_str.result.now ≡ c.args.before.now ++ c.args.after.now = c.as_str.ensures.value ∙ c.in_ok-push_str.ensures.bytes ∙ ap (λ z. z ++ c.args.after.now) c.in_ok-digits.ensures.ok in
    parts_err c.args.before.now c.args.after.now (ap is_integer (sym text) ∙ parsed-err c.as_str.result.now c.parse.result c.in-Err.field-0 c.parse.ensures.value.0 c.in-Err.is)
