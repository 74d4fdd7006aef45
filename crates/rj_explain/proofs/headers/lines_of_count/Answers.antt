use Rattle.std.proofs.Common.{◌≡◌, ◌∙◌, ap, length, map, sym}
use Rattle.std.proofs.lemmas.List.{length-map}
use Rattle.std.specs.Option.{option_copied}
use Rattle.std.proofs.lemmas.Result.{IfOk-weaker}
use Rattle.rj_settings.specs.Columns.{types_under}
use Rattle.rj_explain.specs.Lines.{count_line}
use Rattle.rj_explain.proofs.headers.lines_of_count.Goals as goal

pub returns : goal.returns
returns c =
    let names = map (λ n. n.now) c.args.names.now in
    let untyped = option_copied c.in_ok-untyped.untyped in
    let many : length names ≡ length c.args.names.now = length-map c.args.names.now (λ n. n.now) in
    let types : c.len-types.result ≡ length (types_under c.args.entries.now names) = c.len-types.ensures ∙ (c.in_ok-types_under.field-0.ok.0 ∙ ap length c.in_ok-types_under.ensures) in
    IfOk-weaker c.count_line.result _ _
    (λ s told. told ∙ (ap (λ n. count_line n c.len-types.result untyped) (sym many) ∙ (ap (λ n. count_line (length names) n untyped) types
    ∙ ap (λ o. count_line (length names) (length (types_under c.args.entries.now names)) o) c.in_ok-untyped.ensures))) c.count_line.ensures
