use Rattle.std.proofs.Common.{◌≡◌, ℕ, List, Bor, drop, length, map}
use Rattle.rj_csv_io.specs.Internal.NameColumns.{columns_in}
use Rattle.rj_csv_io.specs.Named as named
use Rattle.rj_csv_io.proofs.names.naming.columns_of.Given as goal

abbrev pub invariant-loop-field : goal.invariant-loop-field
invariant-loop-field l = record {
  told : named.columns_after (map (λ (t : Bor (List ℕ)). t.now) l.fields) (columns_in l.columns.items) (drop l._field (map (λ (t : Bor (List ℕ)). t.now) l.fields))
      ≡ named.columns_of (map (λ (t : Bor (List ℕ)). t.now) l.fields);
  count : length l.columns.items ≡ l._field;
  end : l._field-end ≡ length l.fields;
}
