use Rattle.std.proofs.Common.{subst}
use Rattle.rj_engine.specs.KeyGroups.{keyed_tables}
use Rattle.rj_engine.specs.Reports.{AreKeysOf}
use Rattle.rj_engine.proofs.GroupFacts.{largest-in}
use Rattle.rj_command.proofs.join.reports.keys_text.Goals as goal

pub largest_text-requires-clause-row : goal.largest_text-requires-clause-row
largest_text-requires-clause-row c = λ group is.
    let join = c.args.join.now in
    let l = c.args.left.now in
    let r = c.args.right.now in
    let told = subst (AreKeysOf join l r) c.in-Some.is c.requires.keys in
    largest-in (keyed_tables join l r) c.in-Some.keys.largest told.largest group is
