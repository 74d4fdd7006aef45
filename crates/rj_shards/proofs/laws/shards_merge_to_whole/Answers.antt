use Rattle.rj_shards.proofs.LawFacts.{whole_merge, whole_only}
use Rattle.rj_shards.proofs.laws.shards_merge_to_whole.Goals as goal

pub returns-clause-merge : goal.returns-clause-merge
returns-clause-merge g c = whole_merge

pub returns-clause-only : goal.returns-clause-only
returns-clause-only g c = whole_only
