use Rattle.rj_shards.proofs.Meeting.{kept_meet}
use Rattle.rj_shards.proofs.ShardFacts.{own_members}
use Rattle.rj_shards.proofs.laws.kept_rows_meet.Goals as goal

pub returns : goal.returns
returns c = kept_meet own_members
