use Rattle.std.proofs.Common.{◌∙◌, arith, ap}
use Rattle.rj_explain.specs.Hints.{separator_in}
use Rattle.rj_explain.proofs.HintFacts.{one-name, other-names}
use Rattle.rj_explain.proofs.hints.separator_of_table.Goals as goal

pub returns-then-columns-ne1 : goal.returns-then-columns-ne1
returns-then-columns-ne1 c = other-names c.args.delimiter c.args.table.now.names (λ one. absurd (c.if-columns-ne1.true (omega (arith, one, c.columns.ensures.named))))

pub returns : goal.returns
returns c =
    c.separator_in.ensures
    ∙ (ap (λ name. separator_in c.args.delimiter name) c.as_bytes.ensures.value
    ∙ one-name c.args.delimiter c.args.table.now.names c.name.result.now (omega (arith, c.columns.ensures.named, c.if-columns-ne1.false)) c.name.ensures)
