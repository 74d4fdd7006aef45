use Rattle.rj_shards.proofs.ShardFacts.{own_members}
use Rattle.rj_shards.proofs.laws.shard_is_part.Goals as goal

pub returns : goal.returns
returns c = own_members
