use Rattle.rj_shards.proofs.LawFacts.{cut_within}
use Rattle.rj_shards.proofs.laws.no_place_too_often.Goals as goal

pub returns : goal.returns
returns g c = cut_within
