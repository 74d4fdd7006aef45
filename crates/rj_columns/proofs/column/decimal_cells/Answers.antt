use Rattle.std.proofs.Common.{map, arith}
use Rattle.rj_columns.specs.Contents.{content_of}
use Rattle.rj_columns.specs.Internal.Stores.{decimal_content}
use Rattle.rj_columns.proofs.CellFacts.{cells-start, cells-more}
use Rattle.rj_columns.proofs.column.decimal_cells.Goals as goal

pub loop-row-init : goal.loop-row-init
loop-row-init c = record { cells = cells-start (decimal_content c.args.scale) c.args.numbers.now c.args.from (map content_of c.args.cells.now.items); low = omega arith }

pub loop-row-preserved : goal.loop-row-preserved
loop-row-preserved c = record {
  cells =
      rw c.in_ok-push.ensures.items
      (cells-more (decimal_content c.args.scale) c.args.numbers.now c.args.from c.loop-row.row c.get.result c.loop-row.cells.items c.decimal_cell.result _
      c.loop-row.invariant.low (omega (arith, c.loop-row-test.true, c.requires.rows)) c.get.ensures c.loop-row.invariant.cells c.decimal_cell.ensures);
  low = omega (arith, c.loop-row.invariant.low);
}
