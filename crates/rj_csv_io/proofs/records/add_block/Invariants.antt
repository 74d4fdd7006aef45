use Rattle.std.proofs.Common.{◌≡◌, ◌++◌, ℕ}
use Rattle.rj_csv_io.specs.Ends.{records_between}
use Rattle.rj_csv_io.specs.Written.{IsSettled}
use Rattle.rj_csv_io.proofs.records.add_block.Given as goal

abbrev pub invariant-loop-row : goal.invariant-loop-row
invariant-loop-row g l = record {
  settled : (d : ℕ) → IsSettled d l.fn.writer → IsSettled d l.writer;
  texts : (d : ℕ) → IsSettled d l.fn.writer → l.texts ≡ l.fn.texts ++ records_between d l.null (g.S.RowSource.contents l.source) l.block.from l.row;
  end : l.row-end ≡ l.block.to;
}
