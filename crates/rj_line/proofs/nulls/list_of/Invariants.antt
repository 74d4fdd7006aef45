use Rattle.std.proofs.Common.{◌≡◌, length, take}
use Rattle.rj_line.proofs.nulls.list_of.Given as goal

abbrev pub invariant-loop-i : goal.invariant-loop-i
invariant-loop-i l = record {
  list : l.list.items ≡ take l.i l.texts;
  end : l.i-end ≡ length l.texts;
}
