use Rattle.std.proofs.Common.{◌≡◌, Ok, refl, sym, ap, ◌∙◌, arith}
use Rattle.std.proofs.lemmas.Result.{err_from_is_err_and}
use Rattle.csv.specs.Records.{fields_of}
use Rattle.rj_columns.specs.Tables.{BuilderValue}
use Rattle.rj_csv_io.proofs.RowsFacts.{rows-fault, row-too_many, row-ragged, row-cells, ended}
use Rattle.rj_csv_io.specs.Rows.{read_row}
use Rattle.rj_csv_io.specs.Typed.{null_texts}
use Rattle.rj_csv_io.proofs.read_rows.next_row.Goals as goal

pub returns-then-not-branch-clause-all : goal.returns-then-not-branch-clause-all
returns-then-not-branch-clause-all c = λ _. record { none = c.in_ok-next_record.ensures.none (ap Ok c.if-not-branch.true); same = refl }

pub returns-then-before-ge-MAX_ROWS-clause-fault : goal.returns-then-before-ge-MAX_ROWS-clause-fault
returns-then-before-ge-MAX_ROWS-clause-fault c = λ _.
    let next = c.in_ok-next_record.ensures.next (ap Ok c.if-not-branch.false) in
    let row = row-too_many (null_texts c.args.nulls.now) c.args.types.now c.rows-before.result (fields_of c.next_record.new.fields) c.if-before-ge-MAX_ROWS.true in
    rw next (rows-fault (null_texts c.args.nulls.now) c.args.types.now c.args.builder.now.table.rows c.rows-before.result _ _ _ (sym c.rows-before.ensures) row)

pub returns-then-len-types-clause-fault : goal.returns-then-len-types-clause-fault
returns-then-len-types-clause-fault c = λ _.
    let next = c.in_ok-next_record.ensures.next (ap Ok c.if-not-branch.false) in
    let row = row-ragged (null_texts c.args.nulls.now) c.args.types.now c.rows-before.result (fields_of c.next_record.new.fields) c.if-before-ge-MAX_ROWS.false (λ e. c.if-len-types.true (c.len.ensures ∙ e)) in
    rw next (rows-fault (null_texts c.args.nulls.now) c.args.types.now c.args.builder.now.table.rows c.rows-before.result _ _ _ (sym c.rows-before.ensures) row)

pub push_fields-requires-clause-fields : goal.push_fields-requires-clause-fields
push_fields-requires-clause-fields c = sym c.len.ensures ∙ c.if-len-types.false

pub returns-in_err-push_fields-clause-fault : goal.returns-in_err-push_fields-clause-fault
returns-in_err-push_fields-clause-fault c =
    let told = err_from_is_err_and c.from_residual-in_err-push_fields.result c.from_residual-in_err-push_fields.ensures.1 in
    let next = c.in_ok-next_record.ensures.next (ap Ok c.if-not-branch.false) in
    let row = row-cells (null_texts c.args.nulls.now) c.args.types.now c.rows-before.result (fields_of c.next_record.new.fields) c.if-before-ge-MAX_ROWS.false (sym c.len.ensures ∙ c.if-len-types.false) in
    rw (told.1, told.2) (λ ne. rw next (rows-fault (null_texts c.args.nulls.now) c.args.types.now c.args.builder.now.table.rows c.rows-before.result _ _ _ (sym c.rows-before.ensures) (row ∙ c.in_err-push_fields.ensures.fault ne)))

pub end_row-requires-clause-full : goal.end_row-requires-clause-full
end_row-requires-clause-full c =
    let t : c.push_fields.new.builder.table ≡ c.args.builder.now.table = ap (λ (v : BuilderValue). v.table) c.in_ok-push_fields.ensures.same in
    rw (t, c.requires.types) c.in_ok-push_fields.ensures.size

pub end_row-requires-clause-room : goal.end_row-requires-clause-room
end_row-requires-clause-room c =
    let t : c.push_fields.new.builder.table ≡ c.args.builder.now.table = ap (λ (v : BuilderValue). v.table) c.in_ok-push_fields.ensures.same in
    rw t (omega (arith, c.rows-before.ensures, c.if-before-ge-MAX_ROWS.false))

pub returns-clause-row : goal.returns-clause-row
returns-clause-row c = λ _.
    let fields = fields_of c.next_record.new.fields in
    let row = row-cells (null_texts c.args.nulls.now) c.args.types.now c.rows-before.result fields c.if-before-ge-MAX_ROWS.false (sym c.len.ensures ∙ c.if-len-types.false) in
    record {
      fields = fields;
      cells = c.push_fields.new.builder.row;
      next = c.in_ok-next_record.ensures.next (ap Ok c.if-not-branch.false);
      between = c.in_ok-next_record.ensures.between (ap Ok c.if-not-branch.false);
      row = ap (λ n. read_row (null_texts c.args.nulls.now) c.args.types.now n fields) (sym c.rows-before.ensures) ∙ (row ∙ c.in_ok-push_fields.ensures.cells);
      added = ended c.args.builder.now c.push_fields.new.builder c.end_row.new.self c.in_ok-push_fields.ensures.same c.end_row.ensures;
    }
