use Rattle.std.proofs.Common.{arith, ne_eqb, eq-eqb}
use Rattle.std.proofs.lemmas.Str.{utf8_valid_len-IsUtf8}
use Rattle.rj_line.proofs.shown.text_in.Goals as goal

pub returns-in-Ok : goal.returns-in-Ok
returns-in-Ok c = (c.in-Ok.ensures.cases.0, eq-eqb _ _ (utf8_valid_len-IsUtf8 _ c.in-Ok.ensures.cases.1))

pub returns-in-Err : goal.returns-in-Err
returns-in-Err c = ne_eqb _ _ (omega (arith, c.in-Err.ensures.cases.1.short, c.in-Err.ensures.valid_len))
