use Rattle.std.proofs.Common.{◌∙◌, ap, length, List, map, subst, sym, ℕ}
use Rattle.std.specs.Prelude.{OnOk, String, string_bytes}
use Rattle.std.specs.Io.KnownBytes.{Appends}
use Rattle.std.specs.declared.alloc.Global.{Global}
use Rattle.std.proofs.lemmas.List.{length-map}
use Rattle.rj_csv_io.specs.Shown.{table_text}
use Rattle.rj_engine.specs.Cells.{ViewValue, name_of}
use Rattle.rj_engine.specs.Chosen.{chosen_columns}
use Rattle.rj_engine.specs.Shown.{shown_view}
use Rattle.rj_command.proofs.join.running.write_chosen.Goals as goal

pub write_shown-requires-clause-names : goal.write_shown-requires-clause-names
write_shown-requires-clause-names g c κs within =
    let o = c.args.operands in
    let names = c.args.chosen.names.items in
    ap length c.as_slice.ensures.value
    ∙ (sym (length-map names (λ (n : String Global). string_bytes n))
    ∙ (c.requires.named.many
    ∙ (length-map (chosen_columns c.args.request.now.choice o.join o.left o.right) (name_of o.left o.right) ∙ sym (ap (λ (v : ViewValue). v.width) c.requires.chosen.shown))))

pub returns-clause-ok : goal.returns-clause-ok
returns-clause-ok g c =
    let d = c.args.request.now.out_delimiter in
    let null = c.args.request.now.out_null.now in
    let names = map string_bytes c.args.chosen.names.items in
    let before = g.O.Output.told c.args.writer.now in
    let after = g.O.Output.told c.write_shown.new.writer in
    let cells = (shown_view c.args.chosen.shown c.args.operands.left c.args.operands.right c.args.chosen.joined.members).cells in
    let header = ap (λ (ns : List (String Global)). table_text d null (map string_bytes ns) cells) c.as_slice.ensures.value in
    subst (λ (t : List ℕ). OnOk c.write_shown.result (Appends before after t))
    (header ∙ ap (λ (v : ViewValue). table_text d null names v.cells) c.requires.chosen.shown) c.write_shown.ensures.ok
