use Rattle.std.proofs.Common.{◌∙◌, ◌-◌, Some, ap, map, sym}
use Rattle.std.specs.Prelude.{slice_get, string_bytes}
use Rattle.std.proofs.lemmas.Result.{IfOk-weaker}
use Rattle.rj_explain.specs.Lines.{null_line}
use Rattle.rj_explain.proofs.NameFacts.{get-map, get-some}
use Rattle.rj_explain.proofs.joined.null_text_line.Goals as goal

pub returns : goal.returns
returns c =
    let names = c.args.names.now in
    let name = c.in-Some.name.now in
    let row = c.args.row in
    let column = c.args.column - 1 in
    let lookup = c.in-Some.ensures.lookup in
    let place = ap (slice_get names) (sym c.saturating_sub.ensures) ∙ get-some names c.saturating_sub.result name lookup.3.0 lookup.1 in
    let here = get-map string_bytes names column name place in
    let shown = ap (λ bs. Some bs) (c.as_bytes.ensures.value ∙ c.as_str.ensures.value) ∙ sym here in
    IfOk-weaker c.format.result _ _
    (λ s told. told ∙ (ap (λ o. null_line row o c.as_bytes-2.result.now) shown
    ∙ ap (null_line row (slice_get (map string_bytes names) column)) c.as_bytes-2.ensures.value)) c.format.ensures.ok
