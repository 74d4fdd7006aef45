use Rattle.rj_shards.proofs.ShardFacts.{rows_once}
use Rattle.rj_shards.proofs.laws.rows_stand_once.Goals as goal

pub returns : goal.returns
returns c = rows_once
