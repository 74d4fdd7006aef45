use Rattle.rj_command.proofs.PreparedFacts.{outcome_of}
use Rattle.rj_line.specs.declared.request.Hash.TheVariants as hash
use Rattle.rj_command.proofs.join.expected.join_by_hash.Goals as goal

pub returns-in-Plain : goal.returns-in-Plain
returns-in-Plain g c =
    let told = c.run_join.ensures in
    outcome_of c.args.request.now c.args.operands.now hash.Plain c.run_join.result c.in-Plain.is told.members told.left_sizes told.right_sizes told.pieces

pub returns-in-Mixed : goal.returns-in-Mixed
returns-in-Mixed g c =
    let told = c.run_join-in-Mixed.ensures in
    outcome_of c.args.request.now c.args.operands.now hash.Mixed c.run_join-in-Mixed.result c.in-Mixed.is told.members told.left_sizes told.right_sizes told.pieces
