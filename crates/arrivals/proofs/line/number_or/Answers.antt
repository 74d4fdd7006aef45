use Rattle.arrivals.proofs.NumberFacts.{number-err, number-ok}
use Rattle.arrivals.proofs.line.number_or.Goals as goal

pub returns-in-Ok : goal.returns-in-Ok
returns-in-Ok c = rw (← c.in-Some.ensures) (number-ok c.in-Some.text.now c.parse.result c.in-Ok.number c.args.other c.parse.ensures.value.0 c.in-Ok.is)

pub returns-in-Err : goal.returns-in-Err
returns-in-Err c = rw (← c.in-Some.ensures) (number-err c.in-Some.text.now c.parse.result c.in-Err.field-0 c.args.other c.parse.ensures.value.0 c.in-Err.is)
