use Rattle.merges.proofs.NumberFacts.{place-err, place-ok}
use Rattle.merges.proofs.line.bound_of.Goals as goal

pub returns-in-Ok : goal.returns-in-Ok
returns-in-Ok c = rw (← c.in-Some.ensures) (place-ok c.in-Some.text.now c.parse.result c.in-Ok.left c.parse.ensures.value.0 c.in-Ok.is)

pub returns-in-Err : goal.returns-in-Err
returns-in-Err c = rw (← c.in-Some.ensures) (place-err c.in-Some.text.now c.parse.result c.in-Err.field-0 c.parse.ensures.value.0 c.in-Err.is)
