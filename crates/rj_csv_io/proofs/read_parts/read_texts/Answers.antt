use Rattle.std.proofs.Common.{◌<◌, ◌∙◌, ap, length, arith}
use Rattle.std.proofs.lemmas.Result.{err_from_is_err_and}
use Rattle.csv.specs.Records.{fields_of}
use Rattle.rj_columns.specs.Tables.{TableValue}
use Rattle.rj_csv_io.proofs.PartFacts.{tables-alike, whole-empty_table, whole-rows}
use Rattle.rj_csv_io.proofs.read_parts.read_texts.Goals as goal

pub concat-requires-clause-alike : goal.concat-requires-clause-alike
concat-requires-clause-alike g c =
    let tables = c.in_ok-tables.tables.items in
    let some : 0 < length tables = omega (arith, c.in_ok-tables.ensures.count, c.requires) in
    tables-alike (fields_of c.args.header.now) c.args.types.now tables some c.in_ok-tables.ensures.tables.columns

pub returns-in-Ok-concat : goal.returns-in-Ok-concat
returns-in-Ok-concat g c =
    let tables = c.in_ok-tables.tables.items in
    let some : 0 < length tables = omega (arith, c.in_ok-tables.ensures.count, c.requires) in
    let is = c.in-Ok-concat.ensures in
    let rows = ap (λ (t : TableValue). t.rows) is ∙ whole-rows tables some in
    (rw is (whole-empty_table (fields_of c.args.header.now) c.args.types.now tables some c.in_ok-tables.ensures.tables.columns), rw rows c.in_ok-tables.ensures.tables.rows)

pub returns-in_err-tables : goal.returns-in_err-tables
returns-in_err-tables g c =
    let is = err_from_is_err_and c.from_residual.result c.from_residual.ensures.1 in
    rw (is.1, is.2) c.in_err-tables.ensures.fault
