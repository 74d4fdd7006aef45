use Rattle.rj_shards.proofs.MergeHeaderFacts.{compared}
use Rattle.rj_shards.proofs.merge.header.are_same.Goals as goal

pub returns : goal.returns
returns c =
    let d = c.eq.ensures.ran in
    let said = compared c.eq.result d.1 d.2 c.iter.result d.5 d.0 d.6 d.3 d.4 d.8 d.9 d.10 d.11 in
    rw (d.7, c.iter.ensures.row, c.iter.ensures.at, c.iter-2.ensures.row, c.iter-2.ensures.at) at said
