use Rattle.rj_shards.proofs.LawFacts.{whole_renumbered}
use Rattle.rj_shards.proofs.laws.renumbered_shards_merge_to_whole.Goals as goal

pub returns : goal.returns
returns g c = whole_renumbered
