use Rattle.rj_command.proofs.join.auto.clause_of.Goals as goal

pub returns-in_ok-refuse_memory-in-Err : goal.returns-in_ok-refuse_memory-in-Err
returns-in_ok-refuse_memory-in-Err c = λ clause has. c.in_ok-refuse_memory-in-Err.ensures (c.in-Err.ensures.only clause has)
