use Rattle.std.proofs.Common.{sym}
use Rattle.rj_columns.specs.Contents.{word}
use Rattle.rj_csv_io.proofs.TypedFacts.{reads-no_text, reads-text}
use Rattle.rj_csv_io.specs.Typed.{null_texts}
use Rattle.rj_csv_io.proofs.fields.push_field.Goals as goal

pub returns-in_default-text_of_field-clause-none : goal.returns-in_default-text_of_field-clause-none
returns-in_default-text_of_field-clause-none c = λ _.
    rw c.in-Text.is (sym (reads-no_text (null_texts c.args.nulls.now) c.args.field.now c.if-is_null_field.ensures c.in_default-text_of_field.ensures))

pub push_cell-requires-in-Text : goal.push_cell-requires-in-Text
push_cell-requires-in-Text c =
    let read = reads-text (null_texts c.args.nulls.now) c.args.field.now c.if-is_null_field.ensures c.in-Some-text_of_field.ensures.1 in
    rw c.in-Some-text_of_field.ensures.0 (c.requires (word c.args.field.now) (rw c.in-Text.is (sym read)))

pub returns-in_ok-push_cell-in-Text-clause-cell : goal.returns-in_ok-push_cell-in-Text-clause-cell
returns-in_ok-push_cell-in-Text-clause-cell c = λ _.
    let read = reads-text (null_texts c.args.nulls.now) c.args.field.now c.if-is_null_field.ensures c.in-Some-text_of_field.ensures.1 in
    let pushed = rw c.in-Some-text_of_field.ensures.0 at c.in_ok-push_cell-in-Text.ensures.ok in
    (word c.args.field.now, rw c.in-Text.is (sym read), pushed)
