use Rattle.rj_shards.proofs.LawFacts.{cut_merge, cut_only}
use Rattle.rj_shards.proofs.laws.cut_shards_merge_to_whole.Goals as goal

pub returns-clause-merge : goal.returns-clause-merge
returns-clause-merge g c = cut_merge

pub returns-clause-only : goal.returns-clause-only
returns-clause-only g c = cut_only
