use Rattle.std.proofs.Common.{◌≡◌, ◌++◌, drop, length}
use Rattle.rj_condition.specs.Tokens.{doubled}
use Rattle.rj_line.proofs.suggest.writing.push_doubled.Given as goal

abbrev pub invariant-loop-i : goal.invariant-loop-i
invariant-loop-i l = record {
  so_far : l.out.items ++ doubled 34 (drop l.i l.text) ≡ l.fn.out.items ++ doubled 34 l.text;
  end : l.i-end ≡ length l.text;
}
