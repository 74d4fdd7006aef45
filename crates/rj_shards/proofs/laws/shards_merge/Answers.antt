use Rattle.rj_shards.proofs.ShardFacts.{merged, only}
use Rattle.rj_shards.proofs.laws.shards_merge.Goals as goal

pub returns-clause-merge : goal.returns-clause-merge
returns-clause-merge c = merged

pub returns-clause-only : goal.returns-clause-only
returns-clause-only c = only
