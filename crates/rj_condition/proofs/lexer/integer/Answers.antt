use Rattle.std.proofs.Common.{◌∙◌, ap}
use Rattle.rj_condition.specs.Tokens.{begins, is_name_byte}
use Rattle.rj_condition.proofs.Integers.{integer_found, integer_not_found}
use Rattle.rj_condition.proofs.lexer.integer.Goals as goal

pub returns-in-Ok : goal.returns-in-Ok
returns-in-Ok c =
    integer_found c.args.front.now c.args.rest.now c.parse.result c.in-Ok.value
    (c.if-begins_with_name_byte.ensures ∙ ap (begins is_name_byte) c.as_bytes.ensures.value) c.parse.ensures.value.0 c.in-Ok.is

pub returns-in-Err : goal.returns-in-Err
returns-in-Err c =
    integer_not_found c.args.front.now c.args.rest.now c.parse.result c.in-Err.field-0
    (c.if-begins_with_name_byte.ensures ∙ ap (begins is_name_byte) c.as_bytes.ensures.value) c.parse.ensures.value.0 c.in-Err.is
