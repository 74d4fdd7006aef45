use Rattle.std.proofs.Common.{◌≡◌, ◌++◌, ◌-◌, ◌<◌, ◌≤◌, ◌^◌, drop}
use Rattle.std.specs.Fmt.{decimal}
use Rattle.rj_columns.proofs.NumberTexts.{digits_left}
use Rattle.rj_columns.proofs.decimal.text.put_number.Given as goal

abbrev pub invariant-loop-rest : goal.invariant-loop-rest
invariant-loop-rest l = record {
  text : decimal l.fn.number ++ drop l.end l.fn.bytes ≡ digits_left l.rest ++ drop l.at l.bytes;
  some : 0 < l.at;
  inside : l.at ≤ l.end;
  room : l.rest < 10 ^ (l.at - 1);
}

abbrev pub decreases-loop-rest : goal.decreases-loop-rest
decreases-loop-rest l = l.rest
