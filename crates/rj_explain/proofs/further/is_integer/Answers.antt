use Rattle.std.proofs.Common.{◌∙◌, sym}
use Rattle.rj_csv_io.proofs.TypedFacts.{int-utf8}
use Rattle.rj_explain.proofs.FurtherFacts.{int_parses}
use Rattle.rj_explain.proofs.further.is_integer.Goals as goal

pub returns-in-Ok : goal.returns-in-Ok
returns-in-Ok c =
    let said = rw c.in-Ok.ensures.cases.0 at c.parse.ensures.value.0 in
    c.is_ok.ensures.value ∙ int_parses c.args.field.now c.parse.result said

pub returns-in-Err : goal.returns-in-Err
returns-in-Err c = sym (int-utf8 c.args.field.now c.in-Err.ensures.cases.0)
