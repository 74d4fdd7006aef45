use Rattle.std.proofs.Common.{◌∙◌, List, ℕ, ap}
use Rattle.std.proofs.lemmas.Result.{IfOk-weaker}
use Rattle.rj_explain.specs.Lines as lines
use Rattle.rj_explain.proofs.joined.lines_of_paired.Goals as goal

pub returns : goal.returns
returns c =
    let (columns, are, key) = c.in_ok-key.ensures in
    let line = c.args.found.now.row.line in
    IfOk-weaker c.paired_line.result _ _
    (λ s told. (columns, are, told ∙ ap (λ (k : List ℕ). lines.row_line c.args.side c.args.row c.args.pairs line k) (c.as_str.ensures.value ∙ key))) c.paired_line.ensures
