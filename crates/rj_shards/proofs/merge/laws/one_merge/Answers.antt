use Rattle.rj_shards.specs.Copies.{copied_rows}
use Rattle.rj_shards.proofs.WholeFacts.{only_merge, only_merge_of}
use Rattle.rj_shards.proofs.merge.laws.one_merge.Goals as goal

pub returns : goal.returns
returns g c = record {
  copies = λ inputs v w. only_merge_of (copied_rows inputs) v w;
  lists = only_merge;
}
