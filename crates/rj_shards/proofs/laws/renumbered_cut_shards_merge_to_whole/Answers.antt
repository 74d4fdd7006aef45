use Rattle.rj_shards.proofs.LawFacts.{cut_renumbered}
use Rattle.rj_shards.proofs.laws.renumbered_cut_shards_merge_to_whole.Goals as goal

pub returns : goal.returns
returns g c = cut_renumbered
