use Rattle.std.proofs.Common.{◌∙◌}
use Rattle.rj_explain.proofs.FurtherFacts.{utf8_read}
use Rattle.rj_explain.proofs.further.is_text.Goals as goal

pub returns : goal.returns
returns c = c.is_ok.ensures.value ∙ utf8_read c.args.field.now c.from_utf8.result c.from_utf8.ensures.cases (λ t h. h.1) (λ e h. h.0)
