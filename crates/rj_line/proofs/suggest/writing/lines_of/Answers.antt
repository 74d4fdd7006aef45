use Rattle.std.proofs.Common.{◌∙◌, arith}
use Rattle.rj_line.proofs.SuggestFacts.{lines-step}
use Rattle.rj_line.proofs.suggest.writing.lines_of.Goals as goal

pub loop-col-preserved : goal.loop-col-preserved
loop-col-preserved c = record {
  so_far = lines-step c.args.table.now.names c.args.kinds.now c.loop-col.col c.name.result.now c.index-kinds-col.result c.loop-col.lines.items c.push_line.new.out.items
      (omega (arith, c.loop-col-test.true, c.loop-col.invariant.end, c.loop-col.invariant.names))
      (omega (arith, c.loop-col-test.true, c.loop-col.invariant.end, c.requires))
      c.name.ensures c.index-kinds-col.is c.in_ok-push_line.ensures ∙ c.loop-col.invariant.so_far;
  end = c.loop-col.invariant.end;
  names = c.loop-col.invariant.names;
}
