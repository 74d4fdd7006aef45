use Rattle.std.proofs.Common.{◌≡◌, ◌-◌, map}
use Rattle.rj_columns.specs.Contents.{content_of}
use Rattle.rj_csv_io.specs.Internal.Blocks.{block_of}
use Rattle.rj_csv_io.proofs.block.gather.Given as goal

abbrev pub invariant-loop-col : goal.invariant-loop-col
invariant-loop-col g l = record {
  cells : map content_of l.cells.items ≡ block_of (g.S.RowSource.contents l.source) l.from (l.to - l.from) l.col;
  end : l.col-end ≡ g.S.RowSource.width l.source;
}
