use Rattle.std.proofs.Common.{◌≤◌, length}
use Rattle.rj_explain.specs.Further.{AreGood}
use Rattle.rj_explain.specs.Places.{StandsAt}
use Rattle.rj_explain.proofs.further.first_bad.Given as goal

abbrev pub invariant-loop-row : goal.invariant-loop-row
invariant-loop-row l = record {
  within : l.at ≤ length l.column.text.now;
  rows : l.row ≤ l.at;
  behind : l.fn.from.row ≤ l.row;
  stands : StandsAt l.column.delimiter l.column.text.now l.row l.at;
  good : AreGood l.column l.fn.from.row l.row;
}
