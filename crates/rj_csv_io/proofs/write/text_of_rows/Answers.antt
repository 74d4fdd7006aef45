use Rattle.std.proofs.Common.{◌≡◌, ◌∙◌, ◌++◌, List, ℕ, Bor, map, ap, subst}
use Rattle.std.specs.Prelude.{IfOk}
use Rattle.csv.specs.Writing.{row_text}
use Rattle.rj_csv_io.specs.Shown.{range_text, writer_of}
use Rattle.rj_csv_io.proofs.RangeFacts.{header-rows}
use Rattle.rj_csv_io.proofs.write.text_of_rows.Goals as goal

pub returns : goal.returns
returns g c =
    let d = c.args.format.now.delimiter in
    let null = c.args.format.now.null.now in
    let rows = g.S.RowSource.contents c.args.source.now in
    let names = map (λ (n : Bor (List ℕ)). n.now) c.args.header.now in
    subst (λ t. IfOk c.add_range.result (λ v. v.items ≡ t))
    (ap (λ t. t ++ range_text d null rows 0 c.rows.result) c.in_ok-text.ensures
    ∙ (ap (λ n. row_text (writer_of d) names ++ range_text d null rows 0 n) c.rows.ensures ∙ header-rows d null names rows))
    c.add_range.ensures
