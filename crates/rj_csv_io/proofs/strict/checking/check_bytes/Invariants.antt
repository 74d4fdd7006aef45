use Rattle.std.proofs.Common.{◌≡◌, ◌+◌, ◌≤◌, drop}
use Rattle.rj_csv_io.specs.Internal.StrictSteps.{initial_standing, verdict}
use Rattle.rj_csv_io.proofs.strict.checking.check_bytes.Given as goal

abbrev pub invariant-loop-i : goal.invariant-loop-i
invariant-loop-i l = record {
  row : l.standing.row ≤ l.i + 1;
  column : l.standing.column ≤ l.i + 1;
  told : verdict l.delimiter l.full l.standing (drop l.i l.text) ≡ verdict l.delimiter l.full (initial_standing l.fn.header) l.text;
}
