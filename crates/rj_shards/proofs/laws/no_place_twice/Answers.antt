use Rattle.rj_shards.proofs.LawFacts.{whole_apart}
use Rattle.rj_shards.proofs.laws.no_place_twice.Goals as goal

pub returns : goal.returns
returns g c = whole_apart
