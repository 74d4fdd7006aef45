use Rattle.std.proofs.Common.{◌≡◌, ◌++◌, false, drop, length}
use Rattle.rj_line.specs.Listed.{list_from}
use Rattle.rj_line.proofs.suggest.listed.list_in.Given as goal

abbrev pub invariant-loop-i : goal.invariant-loop-i
invariant-loop-i l = record {
  so_far : l.list.items ++ list_from l.quoted (drop l.i l.bytes) ≡ list_from false l.bytes;
  end : l.i-end ≡ length l.bytes;
}
