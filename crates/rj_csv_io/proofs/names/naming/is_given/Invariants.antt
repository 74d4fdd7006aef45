use Rattle.std.proofs.Common.{◌≡◌, false, length, take}
use Rattle.rj_csv_io.specs.Internal.NameColumns.{columns_in}
use Rattle.rj_csv_io.specs.Named as named
use Rattle.rj_csv_io.proofs.names.naming.is_given.Given as goal

abbrev pub invariant-loop-i : goal.invariant-loop-i
invariant-loop-i l = record {
  none : named.is_taken (take l.i (named.names_of (columns_in l.columns))) l.name ≡ false;
  end : l.i-end ≡ length l.columns;
}
