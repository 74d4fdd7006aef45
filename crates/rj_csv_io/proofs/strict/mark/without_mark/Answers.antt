use Rattle.std.proofs.Common.{sym, ◌∙◌}
use Rattle.rj_csv_io.proofs.Marks.{strip-mark, strip-none}
use Rattle.std.proofs.lemmas.List.{take_rest}
use Rattle.rj_csv_io.proofs.strict.mark.without_mark.Goals as goal

pub returns-then-starts_with_mark : goal.returns-then-starts_with_mark
returns-then-starts_with_mark c = take_rest c.args.text.now 3 ∙ sym (strip-mark c.args.text.now (sym c.starts_with_mark.ensures.value ∙ c.if-starts_with_mark.true))

pub returns : goal.returns
returns c = sym (strip-none c.args.text.now (sym c.starts_with_mark.ensures.value ∙ c.if-starts_with_mark.false))
