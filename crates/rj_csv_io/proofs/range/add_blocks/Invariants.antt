use Rattle.std.proofs.Common.{◌≤◌, ◌-◌, ◌++◌, []}
use Rattle.rj_csv_io.specs.Shown.{range_text}
use Rattle.rj_csv_io.specs.Written.{HasWritten}
use Rattle.rj_csv_io.proofs.range.add_blocks.Given as goal

abbrev pub invariant-loop-row : goal.invariant-loop-row
invariant-loop-row g l = record {
  written : HasWritten l.format.delimiter l.writer (l.fn.text.items ++ range_text l.format.delimiter l.format.null.now (g.S.RowSource.contents l.source) l.from l.row) [];
  low : l.from ≤ l.row;
  high : l.row ≤ l.to;
}

abbrev pub decreases-loop-row : goal.decreases-loop-row
decreases-loop-row g l = l.to - l.row
