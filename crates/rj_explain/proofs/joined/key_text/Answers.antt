use Rattle.std.proofs.Common.{◌∙◌, List, ℕ, ap}
use Rattle.std.proofs.lemmas.Result.{IfOk-weaker}
use Rattle.rj_csv_io.specs.Pieces.{names_in}
use Rattle.rj_explain.specs.Lines as lines
use Rattle.rj_explain.proofs.joined.key_text.Goals as goal

pub returns : goal.returns
returns c =
    let names = names_in c.args.found.now.header.fields in
    let fields = names_in c.args.found.now.row.fields in
    IfOk-weaker c.key_text_of.result _ _
    (λ s told. (c.in_ok-columns.columns.items, c.in_ok-columns.ensures, told ∙ ap (λ (cs : List ℕ). lines.key_text names fields cs) c.as_slice.ensures.value)) c.key_text_of.ensures
