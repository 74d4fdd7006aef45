use Rattle.std.proofs.Common.{◌≡◌, ℕ, List, Bor, length, map, take}
use Rattle.rj_csv_io.specs.Internal.NameColumns.{columns_in}
use Rattle.rj_csv_io.specs.Named as named
use Rattle.rj_csv_io.proofs.names.completing.names_of.Given as goal

abbrev pub invariant-loop-i : goal.invariant-loop-i
invariant-loop-i l = record {
  told : map (λ (n : Bor (List ℕ)). n.now) l.names.items ≡ take l.i (named.names_of (columns_in l.columns));
  end : l.i-end ≡ length l.columns;
}
