use Rattle.shards.proofs.HeadFacts.{Splits, cut-splits, first-record, whole-end, whole-splits}
use Rattle.shards.proofs.head.head_of.Goals as goal
use Rattle.shards.proofs.head.head_of.Goals.{then-is_whole, else-is_whole}

pub returns-in-Ok-Some-clause-head : goal.returns-in-Ok-Some-clause-head
returns-in-Ok-Some-clause-head c = λ more continues.
    let text = c.without_bom-text.result.now in
    let named = rw c.in-Ok-Some.field-0-is at c.in-Ok-Some.ensures in
    let splits : Splits c.args.delimiter text more c.if-is_whole.end = elim c.if-is_whole.branch [
      | then-is_whole w ↦
          whole-splits c.args.delimiter text more c.if-is_whole.end w.end-is (whole-end c.args.is_whole c.args.bytes.now more w.if-is_whole.true continues)
      | else-is_whole w ↦ cut-splits c.args.delimiter text more c.if-is_whole.end w.last_cut-end.result w.end-is (w.last_cut-end.ensures.records more)
    ] in
    first-record c.args.is_whole c.args.delimiter c.args.bytes.now more text c.if-is_whole.end c.in-Ok-Some.header c.saturating_sub-begin.result named.0
    c.without_bom-text.ensures continues named.1 splits c.saturating_sub-begin.ensures
