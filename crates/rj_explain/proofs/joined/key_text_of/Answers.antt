use Rattle.std.proofs.Common.{◌≡◌, ◌∙◌, ◌++◌, ℕ, ap, get_or, rules, take}
use Rattle.std.specs.Prelude.{option_map, slice_get, string_bytes}
use Rattle.std.specs.List.{filter_map}
use Rattle.std.specs.Option.{option_to_list}
use Rattle.rj_csv_io.specs.Pieces.{names_in}
use Rattle.rj_explain.specs.Lines.{field_text, fields_text}
use Rattle.rj_explain.proofs.KeyFacts.{filter_map-more}
use Rattle.rj_explain.proofs.joined.key_text_of.Goals as goal

pub loop-column-preserved : goal.loop-column-preserved
loop-column-preserved c =
    let names = names_in c.args.found.now.header.fields in
    let fields = names_in c.args.found.now.row.fields in
    let at = λ (column : ℕ). field_text (slice_get names column) (slice_get fields column) in
    let columns = c.args.columns.now in
    let i = c.loop-column.column-index in
    let told = filter_map at (take i columns) in
    let field = option_map string_bytes c.in_ok-field_text.field-0 in
    let one : at (get_or columns i 0) ≡ field = search rules in
    let added : string_bytes c.push_field.new.text ≡ fields_text (told ++ option_to_list field) = c.in_ok-push_field.ensures told c.loop-column.invariant in
    added ∙ ap fields_text (filter_map-more at columns i 0 field c.loop-column-test.true one)
