use Rattle.std.proofs.Common.{◌≡◌, ◌∙◌, ◌++◌, ap, map, subst, List, ℕ, Vec, Global, Bor}
use Rattle.std.specs.Prelude.{OnOk}
use Rattle.std.specs.Io.KnownBytes.{Appends}
use Rattle.std.specs.List.{concat}
use Rattle.csv.specs.Writing.{row_text}
use Rattle.rj_csv_io.specs.Shown.{rows_text, shown, writer_of}
use Rattle.rj_csv_io.proofs.RangeFacts.{header-join}
use Rattle.rj_csv_io.proofs.write_in_parts.write_rows_in_parts.Goals as goal

pub returns-clause-ok : goal.returns-clause-ok
returns-clause-ok g c =
    let d = c.args.format.now.delimiter in
    let null = c.args.format.now.null.now in
    let rows = g.S.RowSource.contents c.args.source.now in
    let names = map (λ (n : Bor (List ℕ)). n.now) c.args.header.now in
    let made : concat (map (λ (t : Vec ℕ Global). t.items) c.as_slice.result.now) ≡ rows_text d (map (map (shown null)) rows) = rw c.as_slice.ensures.value c.in-Ok.ensures in
    subst (λ t. OnOk c.write_texts.result (Appends (g.O.Output.told c.args.output.now) (g.O.Output.told c.write_texts.new.output) t))
    (ap (λ t. row_text (writer_of d) names ++ t) made ∙ header-join d null names rows)
    c.write_texts.ensures.ok
