use Rattle.std.proofs.Common.{◌≡◌, ℕ, List, Bor, false, length, map, take}
use Rattle.rj_csv_io.specs.Named as named
use Rattle.rj_csv_io.proofs.names.naming.is_taken.Given as goal

abbrev pub invariant-loop-i : goal.invariant-loop-i
invariant-loop-i l = record {
  none : named.is_taken (take l.i (map (λ (t : Bor (List ℕ)). t.now) l.taken)) l.name ≡ false;
  end : l.i-end ≡ length l.taken;
}
