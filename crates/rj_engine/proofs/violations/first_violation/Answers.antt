use Rattle.rj_engine.proofs.Distinct.{lefts_there, rights_there}
use Rattle.rj_engine.proofs.violations.first_violation.Goals as goal

pub pair_violation-requires-clause-left : goal.pair_violation-requires-clause-left
pair_violation-requires-clause-left c =
    lefts_there c.args.join.now c.args.left.now c.args.right.now c.args.joined.now.members c.kept_pairs-pairs.result.now c.rows.result c.requires c.kept_pairs-pairs.ensures c.rows.ensures.count

pub pair_violation-requires-clause-right : goal.pair_violation-requires-clause-right
pair_violation-requires-clause-right c =
    rights_there c.args.join.now c.args.left.now c.args.right.now c.args.joined.now.members c.kept_pairs-pairs.result.now c.rows-2.result c.requires c.kept_pairs-pairs.ensures c.rows-2.ensures.count
