use Rattle.std.proofs.Common.{◌≤◌, ◌+◌, length, arith}
use Rattle.rj_columns.specs.Contents.{cells_of}
use Rattle.rj_columns.proofs.PartFacts.{part-none, part-next}
use Rattle.rj_columns.proofs.source.TableRowSource.cells.Goals as goal

pub loop-at-init : goal.loop-at-init
loop-at-init c = record { cells = part-none c.args.self.now.rows c.args.col c.args.from (cells_of c.args.cells.now); low = omega arith; high = c.requires.order }

pub overflow_add-start : goal.overflow_add-start
overflow_add-start c = omega (arith, c.find-start.ensures.part.within, c.find-start.ensures.few)

pub loop-at-preserved : goal.loop-at-preserved
loop-at-preserved c =
    let part = c.find-start.result.1.now in
    let first = c.find-start.result.0 in
    let count = c.rows.ensures.count in
    let here : c.loop-at.at ≤ c.min-end.result = omega (arith, c.min-end.ensures, c.loop-at-test.true, c.find-start.ensures.to) in
    let inside : c.min-end.result ≤ c.find-start.result.0 + length c.find-start.result.1.now.rows = omega (arith, c.min-end.ensures) in
    let high : c.min-end.result ≤ c.args.to = omega (arith, c.min-end.ensures) in
    record {
      cells =
          part-next c.args.self.now c.find-start.result.1.now c.find-start.result.0 c.args.col c.args.from c.loop-at.at c.min-end.result c.column.result.now.cells
          (cells_of c.args.cells.now) (cells_of c.loop-at.cells) (cells_of c.cells.new.cells) c.find-start.ensures.part c.column.ensures.1
          c.loop-at.invariant.low c.find-start.ensures.from here inside c.loop-at.invariant.cells c.in_ok-cells.ensures;
      low = omega (arith, c.loop-at.invariant.low, here);
      high = high;
    }
