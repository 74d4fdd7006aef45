use Rattle.rj_shards.proofs.LawFacts.{whole_rise}
use Rattle.rj_shards.proofs.laws.shards_rise.Goals as goal

pub returns : goal.returns
returns g c = whole_rise
