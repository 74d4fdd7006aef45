use Rattle.rj_line.proofs.SuggestFacts.{most-step}
use Rattle.rj_line.proofs.suggest.columns.most_digits.Goals as goal

pub loop-row-preserved : goal.loop-row-preserved
loop-row-preserved c = record {
  most = most-step c.args.table.now c.args.col c.loop-row.row c.args.part c.args.least c.loop-row.most c.most_with-most.result _
      c.text_at.ensures c.most_with-most.ensures c.loop-row.invariant.most;
  end = c.loop-row.invariant.end;
}
