use Rattle.std.proofs.Common.{◌∙◌, ap, sym}
use Rattle.rj_condition.specs.Tokens.{begins, is_name_byte}
use Rattle.rj_condition.proofs.Integers.{cut_digits}
use Rattle.rj_condition.proofs.DecimalParts.{fraction_some}
use Rattle.rj_condition.proofs.lexer.fraction.Goals as goal

pub split_at-requires : goal.split_at-requires
split_at-requires c = cut_digits c.as_bytes.result.now c.args.text.now c.digits_len.result c.as_bytes.ensures.value c.digits_len.ensures c.utf8.text

pub returns-in-Some : goal.returns-in-Some
returns-in-Some c =
    fraction_some c.args.before.now c.as_bytes.result.now c.args.text.now c.split_at.result.0.now c.split_at.result.1.now c.digits_len.result c.in-Some.decimal
    c.as_bytes.ensures.value c.digits_len.ensures c.split_at.ensures.front c.split_at.ensures.back
    (sym (c.if-begins_with_name_byte.ensures ∙ ap (begins is_name_byte) c.as_bytes-2.ensures.value)) (sym c.in-Some.is ∙ c.in_ok-decimal.ensures)
