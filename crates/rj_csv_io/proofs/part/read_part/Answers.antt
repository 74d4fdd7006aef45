use Rattle.std.proofs.Common.{Some, List, ℕ, Bor, subst}
use Rattle.std.proofs.lemmas.Result.{err_from_is_err_and}
use Rattle.csv.specs.Records.{fields_of}
use Rattle.rj_csv_io.proofs.PartFacts.{empty_table-rows, reading-from, table-of-none}
use Rattle.rj_csv_io.proofs.TableFacts.{read_bad_header}
use Rattle.rj_csv_io.specs.Parts.{IsReading, row_records}
use Rattle.rj_csv_io.specs.Remaining.{records_remaining}
use Rattle.rj_csv_io.specs.Typed.{null_texts}
use Rattle.rj_csv_io.proofs.part.read_part.Goals as goal

pub returns-in_err-builder : goal.returns-in_err-builder
returns-in_err-builder c =
    let is = err_from_is_err_and c.from_residual.result c.from_residual.ensures.1 in
    rw (is.1, is.2) (λ ne.
    let (f, begun, told) = c.in_err-builder.ensures.fault ne in
    rw told (read_bad_header (null_texts c.args.format.now.nulls.now) c.args.types.now (fields_of c.args.header.now) (row_records c.args.format.now.delimiter c.args.has_header c.args.text.now) f begun))

pub returns-in_err-reader : goal.returns-in_err-reader
returns-in_err-reader c =
    let is = err_from_is_err_and c.from_residual-in_err-reader.result c.from_residual-in_err-reader.ensures.1 in
    rw (is.1, is.2) (λ ne. absurd (ne c.in_err-reader.ensures.memory))

pub returns-in_default : goal.returns-in_default
returns-in_default c =
    let none = empty_table-rows (fields_of c.args.header.now) c.args.types.now c.in_ok-builder.builder.table c.in_ok-builder.ensures.table.0 in
    table-of-none (null_texts c.args.format.now.nulls.now) c.args.types.now (fields_of c.args.header.now) _ c.in_ok-builder.builder.table c.finish.result c.in_ok-builder.ensures.table.0 none c.finish.ensures (rw c.in_default.is at c.in_ok-reader.ensures.reader)

pub returns : goal.returns
returns c =
    let remain = rw c.in-Some.is at c.in_ok-reader.ensures.reader in
    subst (λ (records : List (List (List ℕ))). IsReading (null_texts c.args.format.now.nulls.now) c.args.types.now (fields_of c.args.header.now) records c.rows_of_reader.result) remain.1
    (reading-from (null_texts c.args.format.now.nulls.now) c.args.types.now (fields_of c.args.header.now) (records_remaining (λ (s : Bor (List ℕ)). Some s.now) c.in-Some.reader) c.in_ok-builder.builder.table c.rows_of_reader.result
    c.in_ok-builder.ensures.table.0 c.rows_of_reader.ensures.table c.rows_of_reader.ensures.fault)
