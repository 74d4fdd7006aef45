use Rattle.std.proofs.Common.{◌≡◌, length, take}
use Rattle.shards.proofs.dividing.types_of.Given as goal

abbrev pub invariant-loop-column : goal.invariant-loop-column
invariant-loop-column l = record {
  types : l.types.items ≡ take l.column l.table.types;
  end : l.column-end ≡ length l.table.types;
}
