use Rattle.std.proofs.Common.{◌≡◌, length, map, take, Some}
use Rattle.merges.specs.Copies.{copies_of}
use Rattle.merges.proofs.copies.read_entries.Given as goal

abbrev pub invariant-loop-i : goal.invariant-loop-i
invariant-loop-i l = record {
  read : map (λ e. copies_of e.now) (take l.i l.entries) ≡ map Some l.all.items;
  end : l.i-end ≡ length l.entries;
}
