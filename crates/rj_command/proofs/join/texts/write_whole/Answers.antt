use Rattle.std.proofs.Common.{◌∙◌, List, Bor, ap, map, subst, sym, ℕ}
use Rattle.std.specs.Prelude.{OnOk}
use Rattle.std.specs.Io.KnownBytes.{Appends}
use Rattle.rj_csv_io.specs.Shown.{table_text}
use Rattle.rj_engine.specs.Cells.{ViewValue}
use Rattle.rj_command.proofs.join.texts.write_whole.Goals as goal

pub write_rows_in_parts-requires-clause-header : goal.write_rows_in_parts-requires-clause-header
write_rows_in_parts-requires-clause-header g c κs within = c.requires.header ∙ sym (ap (λ (v : ViewValue). v.width) c.whole-rows.ensures)

pub returns-clause-ok : goal.returns-clause-ok
returns-clause-ok g c =
    let format = c.args.written.now.format in
    let before = g.O.Output.told c.args.writer.now in
    let after = g.O.Output.told c.write_rows_in_parts.new.output in
    let header = map (λ (n : Bor (List ℕ)). n.now) c.args.header.now in
    subst (λ (v : ViewValue). OnOk c.write_rows_in_parts.result (Appends before after (table_text format.delimiter format.null.now header v.cells))) c.whole-rows.ensures c.write_rows_in_parts.ensures.ok
