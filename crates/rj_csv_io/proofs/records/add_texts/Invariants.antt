use Rattle.std.proofs.Common.{◌≡◌, ◌≤◌, ◌-◌, ◌++◌}
use Rattle.rj_csv_io.specs.Ends.{records_between}
use Rattle.rj_csv_io.specs.Written.{IsSettled}
use Rattle.rj_csv_io.proofs.records.add_texts.Given as goal

abbrev pub invariant-loop-row : goal.invariant-loop-row
invariant-loop-row g l = record {
  settled : IsSettled l.format.delimiter l.writer;
  texts : l.texts ≡ l.fn.texts ++ records_between l.format.delimiter l.format.null.now (g.S.RowSource.contents l.source) l.from l.row;
  low : l.from ≤ l.row;
  high : l.row ≤ l.to;
}

abbrev pub decreases-loop-row : goal.decreases-loop-row
decreases-loop-row g l = l.to - l.row
