use Rattle.std.proofs.Common.{◌+◌, ◌≤◌}
use Rattle.rj_csv_io.proofs.AboveFacts.{Stands}
use Rattle.rj_csv_io.proofs.strict.above.start_of_row.Given as goal

abbrev pub invariant-loop-i : goal.invariant-loop-i
invariant-loop-i l = record {
  row : l.standing.row ≤ l.i + 1;
  column : l.standing.column ≤ l.i + 1;
  stands : Stands l.delimiter l.fn.header l.fn.row l.text l.i l.standing;
}
