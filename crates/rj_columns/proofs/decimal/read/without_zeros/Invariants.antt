use Rattle.std.proofs.Common.{◌≡◌, drop, length}
use Rattle.std.specs.Str.{all_ascii_digits}
use Rattle.std.specs.Str.Parse.{digits_value}
use Rattle.rj_columns.proofs.decimal.read.without_zeros.Given as goal

abbrev pub invariant-loop-i : goal.invariant-loop-i
invariant-loop-i l = record {
  digits : all_ascii_digits l.text ≡ all_ascii_digits (drop l.i l.text);
  value : digits_value 10 l.text ≡ digits_value 10 (drop l.i l.text);
  end : l.i-end ≡ length l.text;
}
