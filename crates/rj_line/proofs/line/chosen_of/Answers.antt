use Rattle.clap.specs.Words.{first_value, found_of}
use Rattle.rj_line.proofs.LineFacts.{choice_fault}
use Rattle.rj_line.proofs.line.chosen_of.Goals as goal

pub returns-in-Err-clause-fault : goal.returns-in-Err-clause-fault
returns-in-Err-clause-fault c =
    choice_fault c.args.form (first_value (found_of c.args.matches.now)) c.in-Some.delimiters c.in-Err.fault c.in-Some.ensures c.in-Err.ensures.fault
