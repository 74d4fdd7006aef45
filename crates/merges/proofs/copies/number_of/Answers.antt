use Rattle.std.proofs.Common.{◌∙◌, sym}
use Rattle.merges.proofs.NumberFacts.{number-err}
use Rattle.merges.proofs.copies.number_of.Goals as goal

pub returns-in-Err : goal.returns-in-Err
returns-in-Err c =
    sym (number-err c.args.text.now c.parse.result c.in-Err.field-0 (sym c.are_digits.ensures ∙ c.if-not-are_digits.false) c.parse.ensures.value.0 c.in-Err.is)
