use Rattle.std.proofs.Common.{sym}
use Rattle.rj_csv_io.proofs.BlockFacts.{block-none, block-step}
use Rattle.rj_csv_io.proofs.block.gather.Goals as goal

pub loop-col-init : goal.loop-col-init
loop-col-init g c = record { cells = rw c.clear.ensures.items (sym (block-none (g.S.RowSource.contents c.args.source.now) c.args.from _)); end = c.columns-col-end.ensures.count }

pub loop-col-preserved : goal.loop-col-preserved
loop-col-preserved g c = record {
  cells = block-step (g.S.RowSource.contents c.args.source.now) c.args.from _ c.loop-col.col _ _ c.in_ok-cells.ensures c.loop-col.invariant.cells;
  end = c.loop-col.invariant.end;
}
