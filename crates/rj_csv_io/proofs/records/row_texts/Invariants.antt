use Rattle.std.proofs.Common.{◌≡◌, ◌≤◌, ◌-◌}
use Rattle.rj_csv_io.specs.Ends.{records_between}
use Rattle.rj_csv_io.proofs.records.row_texts.Given as goal

abbrev pub invariant-loop-row : goal.invariant-loop-row
invariant-loop-row g l = record {
  texts : l.texts ≡ records_between l.format.delimiter l.format.null.now (g.S.RowSource.contents l.source) 0 l.row;
  high : l.row ≤ l.to;
}

abbrev pub decreases-loop-row : goal.decreases-loop-row
decreases-loop-row g l = l.to - l.row
