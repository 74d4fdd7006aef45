use Rattle.std.proofs.Common.{◌≡◌, ◌++◌, ◌-◌, ◌/◌, ◌^◌, drop}
use Rattle.rj_columns.specs.NumbersWritten.{last_digits}
use Rattle.rj_columns.proofs.decimal.text.put_digits.Given as goal

abbrev pub invariant-loop-i : goal.invariant-loop-i
invariant-loop-i l = record {
  rest : l.rest ≡ l.fn.number / 10 ^ l.i;
  text : last_digits l.count l.fn.number ++ drop l.end l.initial.bytes ≡ last_digits (l.count - l.i) l.rest ++ drop (l.end - l.i) l.bytes;
}
