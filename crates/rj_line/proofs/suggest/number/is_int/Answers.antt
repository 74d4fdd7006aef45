use Rattle.std.proofs.Common.{sym}
use Rattle.rj_csv_io.proofs.TypedFacts.{parsed-ok, parsed-err}
use Rattle.rj_line.proofs.suggest.number.is_int.Goals as goal

pub returns-in-Ok : goal.returns-in-Ok
returns-in-Ok c = sym (parsed-ok c.args.text.now c.parse.result c.in-Ok.field-0 c.parse.ensures.value.0 c.in-Ok.is).0

pub returns-in-Err : goal.returns-in-Err
returns-in-Err c = sym (parsed-err c.args.text.now c.parse.result c.in-Err.field-0 c.parse.ensures.value.0 c.in-Err.is)
