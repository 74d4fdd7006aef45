use Rattle.rj_engine.proofs.Distinct.{lefts_there, rights_there}
use Rattle.rj_engine.proofs.expected.is_as_expected.Goals as goal

pub are_matched-requires-clause-left : goal.are_matched-requires-clause-left
are_matched-requires-clause-left c =
    lefts_there c.args.join.now c.args.left.now c.args.right.now c.args.joined.now.members c.kept_pairs-pairs.result.now c.rows.result c.requires c.kept_pairs-pairs.ensures c.rows.ensures.count

pub are_matched-requires-clause-right : goal.are_matched-requires-clause-right
are_matched-requires-clause-right c =
    rights_there c.args.join.now c.args.left.now c.args.right.now c.args.joined.now.members c.kept_pairs-pairs.result.now c.rows-2.result c.requires c.kept_pairs-pairs.ensures c.rows-2.ensures.count
