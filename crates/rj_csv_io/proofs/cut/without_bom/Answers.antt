use Rattle.std.proofs.Common.{sym, ◌∙◌}
use Rattle.rj_csv_io.proofs.CutFacts.{strip-bom, strip-plain}
use Rattle.std.proofs.lemmas.List.{take_rest}
use Rattle.rj_csv_io.proofs.cut.without_bom.Goals as goal

pub returns-then-starts_with_bom : goal.returns-then-starts_with_bom
returns-then-starts_with_bom c = take_rest c.args.text.now 3 ∙ sym (strip-bom c.args.text.now (sym c.starts_with_bom.ensures.value ∙ c.if-starts_with_bom.true))

pub returns : goal.returns
returns c = sym (strip-plain c.args.text.now (sym c.starts_with_bom.ensures.value ∙ c.if-starts_with_bom.false))
