use Rattle.rj_shards.proofs.CutShards.{cut_of_shards}
use Rattle.rj_shards.proofs.laws.whole_shards_are_cut.Goals as goal

pub returns : goal.returns
returns g c = cut_of_shards
