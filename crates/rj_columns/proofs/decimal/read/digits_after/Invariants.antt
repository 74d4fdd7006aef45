use Rattle.std.proofs.Common.{◌≡◌, ◌≤◌, ◌+◌, ◌-◌, ◌*◌, ◌^◌, drop, length}
use Rattle.std.specs.Str.{all_ascii_digits}
use Rattle.std.specs.Str.Parse.{digits_value_after}
use Rattle.rj_columns.proofs.decimal.read.digits_after.Given as goal

abbrev pub invariant-loop-i : goal.invariant-loop-i
invariant-loop-i l = record {
  digits : all_ascii_digits l.text ≡ all_ascii_digits (drop l.i l.text);
  value : digits_value_after 10 l.fn.number l.text ≡ digits_value_after 10 l.value (drop l.i l.text);
  room : (l.value + 1) * 10 ^ (length l.text - l.i) ≤ 10 ^ 18;
  end : l.i-end ≡ length l.text;
}
