use Rattle.std.proofs.Common.{◌≡◌, ◌++◌, List, ℕ, []}
use Rattle.rj_csv_io.specs.Shown.{range_text}
use Rattle.rj_csv_io.specs.Written.{HasWritten}
use Rattle.rj_csv_io.proofs.range.write_block.Given as goal

abbrev pub invariant-loop-row : goal.invariant-loop-row
invariant-loop-row g l = record {
  written : (d : ℕ) (text : List ℕ) → HasWritten d l.fn.writer text [] → HasWritten d l.writer (text ++ range_text d l.null (g.S.RowSource.contents l.source) l.block.from l.row) [];
  end : l.row-end ≡ l.block.to;
}
