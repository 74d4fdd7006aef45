use Rattle.std.proofs.Common.{◌≡◌, ◌+◌, ◌-◌, ◌≤◌, ◌++◌, ℕ, List, Bor, length, map}
use Rattle.rj_csv_io.specs.Internal.NameColumns.{columns_in}
use Rattle.rj_csv_io.specs.Named as named
use Rattle.rj_csv_io.proofs.names.naming.free_name.Given as goal

abbrev pub invariant-loop-tried : goal.invariant-loop-tried
invariant-loop-tried l = record {
  told : named.free_from (map (λ (t : Bor (List ℕ)). t.now) l.fields ++ named.names_of (columns_in l.columns)) l.stem (l.tried + 1) (l.most - l.tried)
      ≡ named.free_name (map (λ (t : Bor (List ℕ)). t.now) l.fields ++ named.names_of (columns_in l.columns)) l.stem;
  total : l.most ≡ length l.fields + length l.columns;
  within : l.tried ≤ l.most;
}
