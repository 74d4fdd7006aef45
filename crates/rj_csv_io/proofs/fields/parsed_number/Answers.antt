use Rattle.std.proofs.Common.{refl}
use Rattle.std.proofs.Math.Facts.{to_z-of_z}
use Rattle.rj_csv_io.proofs.TypedFacts.{int-utf8, parsed-ok, parsed-err}
use Rattle.rj_csv_io.proofs.fields.parsed_number.Goals as goal

pub returns-in-Err : goal.returns-in-Err
returns-in-Err c = rw (int-utf8 c.args.field.now c.in-Err.ensures.cases.0) refl

pub returns-in-Ok-parse : goal.returns-in-Ok-parse
returns-in-Ok-parse c =
    let said = rw c.in-Ok.ensures.cases.0 at c.parse.ensures.value.0 in
    let (is_int, value, fits) = parsed-ok c.args.field.now c.parse.result c.in-Ok-parse.n said c.in-Ok-parse.is in
    rw (to_z-of_z fits, is_int, value) refl

pub returns-in-Err-parse : goal.returns-in-Err-parse
returns-in-Err-parse c =
    let said = rw c.in-Ok.ensures.cases.0 at c.parse.ensures.value.0 in
    rw (parsed-err c.args.field.now c.parse.result c.in-Err-parse.field-0 said c.in-Err-parse.is) refl
