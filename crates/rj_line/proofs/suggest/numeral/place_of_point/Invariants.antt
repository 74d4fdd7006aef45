use Rattle.std.proofs.Common.{◌≡◌, ◌++◌, take, drop, length}
use Rattle.rj_columns.specs.NumbersRead.{before_point, after_point, has_point}
use Rattle.rj_line.proofs.suggest.numeral.place_of_point.Given as goal

abbrev pub invariant-loop-i : goal.invariant-loop-i
invariant-loop-i l = record {
  before : before_point l.text ≡ take l.i l.text ++ before_point (drop l.i l.text);
  after : after_point l.text ≡ after_point (drop l.i l.text);
  point : has_point l.text ≡ has_point (drop l.i l.text);
  end : l.i-end ≡ length l.text;
}
