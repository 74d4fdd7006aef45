use Rattle.std.proofs.Common.{◌≡◌, ◌∙◌, ap, List, ℕ, Bor, true, map, rules}
use Rattle.std.proofs.lemmas.Result.{err_from_is_err_and}
use Rattle.csv.specs.Records.{fields_of}
use Rattle.rj_csv_io.specs.Tables.{are_null_texts}
use Rattle.rj_csv_io.proofs.TableFacts.{of_bad_header}
use Rattle.rj_csv_io.specs.Cuts.{records_in_all}
use Rattle.rj_csv_io.proofs.PartFacts.{head-records, reading-fault, reading-table}
use Rattle.rj_csv_io.specs.Typed.{null_texts}
use Rattle.rj_csv_io.proofs.read_parts.read_table_in_parts.Goals as goal

pub returns-in_err-begin_table-clause-fault : goal.returns-in_err-begin_table-clause-fault
returns-in_err-begin_table-clause-fault g c =
    let lawful : are_null_texts (null_texts c.args.format.now.nulls.now) ≡ true = search rules in
    let (rest, e) = rw c.in-Some.is at c.in_ok-header.ensures.header in
    let all = head-records c.args.format.now.delimiter c.as_slice-texts.result.now _ c.args.bytes.now (fields_of c.in-Some.header) rest c.if-is_empty.ensures e
    (ap (λ (l : List (Bor (List ℕ))). records_in_all c.args.format.now.delimiter (map (λ p. p.now) l)) c.as_slice-texts.ensures.value ∙ c.in-Ok.ensures.records) in
    let is = err_from_is_err_and c.from_residual-in_err-begin_table.result c.from_residual-in_err-begin_table.ensures.1 in
    rw (is.1, is.2) (λ ne.
    let (f, begun, told) = c.in_err-begin_table.ensures.fault ne in
    rw told (of_bad_header c.args.format.now.delimiter c.args.bytes.now c.args.types.now (null_texts c.args.format.now.nulls.now) lawful (fields_of c.in-Some.header) _ all f begun))

pub returns-clause-table : goal.returns-clause-table
returns-clause-table g c =
    let lawful : are_null_texts (null_texts c.args.format.now.nulls.now) ≡ true = search rules in
    let (rest, e) = rw c.in-Some.is at c.in_ok-header.ensures.header in
    let all = head-records c.args.format.now.delimiter c.as_slice-texts.result.now _ c.args.bytes.now (fields_of c.in-Some.header) rest c.if-is_empty.ensures e
    (ap (λ (l : List (Bor (List ℕ))). records_in_all c.args.format.now.delimiter (map (λ p. p.now) l)) c.as_slice-texts.ensures.value ∙ c.in-Ok.ensures.records) in
    reading-table c.args.format.now.delimiter c.args.bytes.now c.args.types.now (null_texts c.args.format.now.nulls.now) lawful (fields_of c.in-Some.header) _ all c.read_texts.result c.read_texts.ensures

pub returns-clause-fault : goal.returns-clause-fault
returns-clause-fault g c =
    let lawful : are_null_texts (null_texts c.args.format.now.nulls.now) ≡ true = search rules in
    let (rest, e) = rw c.in-Some.is at c.in_ok-header.ensures.header in
    let all = head-records c.args.format.now.delimiter c.as_slice-texts.result.now _ c.args.bytes.now (fields_of c.in-Some.header) rest c.if-is_empty.ensures e
    (ap (λ (l : List (Bor (List ℕ))). records_in_all c.args.format.now.delimiter (map (λ p. p.now) l)) c.as_slice-texts.ensures.value ∙ c.in-Ok.ensures.records) in
    reading-fault c.args.format.now.delimiter c.args.bytes.now c.args.types.now (null_texts c.args.format.now.nulls.now) lawful (fields_of c.in-Some.header) _ all c.read_texts.result c.read_texts.ensures
