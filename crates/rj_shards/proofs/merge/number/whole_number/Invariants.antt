use Rattle.std.proofs.Common.{◌≡◌, ◌<◌, ◌^◌, drop, length, take}
use Rattle.std.specs.Str.{all_ascii_digits}
use Rattle.std.specs.Str.Parse.{digits_value}
use Rattle.rj_shards.proofs.merge.number.whole_number.Given as goal

abbrev pub invariant-loop-i : goal.invariant-loop-i
invariant-loop-i l = record {
  some : 0 < length l.field;
  value : l.value ≡ digits_value 10 (take l.i l.field);
  small : l.value < 2 ^ 64;
  digits : all_ascii_digits l.field ≡ all_ascii_digits (drop l.i l.field);
  end : l.i-end ≡ length l.field;
}
