use Rattle.std.proofs.Common.{◌≡◌, ℕ, List, Bor, drop, length, map, take}
use Rattle.std.proofs.Common.{[]}
use Rattle.rj_csv_io.specs.Named as named
use Rattle.rj_csv_io.proofs.names.naming.have_names.Given as goal

abbrev pub invariant-loop-i : goal.invariant-loop-i
invariant-loop-i l = record {
  told : named.have_names (take l.i (map (λ (t : Bor (List ℕ)). t.now) l.fields)) (drop l.i (map (λ (t : Bor (List ℕ)). t.now) l.fields))
      ≡ named.have_names [] (map (λ (t : Bor (List ℕ)). t.now) l.fields);
  end : l.i-end ≡ length l.fields;
}
