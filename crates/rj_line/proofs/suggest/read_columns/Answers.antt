use Rattle.std.proofs.Common.{◌≡◌, ◌∙◌, List, ap, sym, rules}
use Rattle.rj_columns.specs.declared.cell.ColumnType.{ColumnType}
use Rattle.rj_csv_io.specs.Typed.{null_texts}
use Rattle.rj_csv_io.specs.Tables.{read_of}
use Rattle.rj_line.proofs.RetypedFacts.{file-retyped}
use Rattle.rj_line.proofs.SuggestFacts.{suggested-read}
use Rattle.rj_line.proofs.suggest.read_columns.Goals as goal

pub returns-in-Ok-kinds_of-clause-kinds : goal.returns-in-Ok-kinds_of-clause-kinds
returns-in-Ok-kinds_of-clause-kinds c =
    let bytes = c.args.bytes.now in
    let d = c.args.format.now.delimiter in
    let nulls = null_texts c.args.format.now.nulls.now in
    let table = c.in-Ok-read_table.table in
    let kinds = c.in-Ok-kinds_of.kinds.items in
    let types : c.as_slice.result.now ≡ c.in-Ok.types.items = search rules in
    let read = ap (λ (ts : List ColumnType). read_of d bytes ts nulls) (sym (types ∙ c.in-Ok.ensures)) ∙ c.in-Ok-read_table.ensures.table in
    let suggested = c.in-Ok-kinds_of.ensures in
    record {
      read = read;
      suggested = suggested;
      typed = file-retyped d bytes nulls kinds table read suggested.count (suggested-read table kinds suggested);
    }
