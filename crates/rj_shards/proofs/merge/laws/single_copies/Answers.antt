use Rattle.rj_shards.proofs.CopyLaws.{single_all, single_merge, single_twice}
use Rattle.rj_shards.proofs.merge.laws.single_copies.Goals as goal

pub returns : goal.returns
returns g c = record { all = single_all; merge = single_merge; twice = single_twice }
