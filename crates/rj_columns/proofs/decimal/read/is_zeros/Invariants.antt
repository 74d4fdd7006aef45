use Rattle.std.proofs.Common.{◌≡◌, drop, length}
use Rattle.rj_columns.specs.NumbersRead.{are_zeros}
use Rattle.rj_columns.proofs.decimal.read.is_zeros.Given as goal

abbrev pub invariant-loop-i : goal.invariant-loop-i
invariant-loop-i l = record {
  zeros : are_zeros l.text ≡ are_zeros (drop l.i l.text);
  end : l.i-end ≡ length l.text;
}
