use Rattle.rj_shards.proofs.LawFacts.{cut_rise}
use Rattle.rj_shards.proofs.laws.pieces_rise.Goals as goal

pub returns : goal.returns
returns g c = cut_rise
