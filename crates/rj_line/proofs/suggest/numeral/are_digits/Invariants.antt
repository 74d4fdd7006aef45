use Rattle.std.proofs.Common.{◌≡◌, drop, length}
use Rattle.std.specs.Str.{all_ascii_digits}
use Rattle.rj_line.proofs.suggest.numeral.are_digits.Given as goal

abbrev pub invariant-loop-i : goal.invariant-loop-i
invariant-loop-i l = record {
  digits : all_ascii_digits l.text ≡ all_ascii_digits (drop l.i l.text);
  end : l.i-end ≡ length l.text;
}
