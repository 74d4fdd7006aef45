use Rattle.std.proofs.Common.{◌≡◌, ◌+◌, ◌++◌, drop, length}
use Rattle.rj_csv_io.specs.Internal.NameColumns.{columns_in, told_of}
use Rattle.rj_csv_io.specs.Named as named
use Rattle.rj_csv_io.proofs.names.naming.given_names.Given as goal

abbrev pub invariant-loop-i : goal.invariant-loop-i
invariant-loop-i l = record {
  told : told_of l.given.items ++ named.given_from (l.i + 1) (drop l.i (columns_in l.columns)) ≡ named.given_from 1 (columns_in l.columns);
  end : l.i-end ≡ length l.columns;
}
