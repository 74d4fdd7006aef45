use Rattle.std.proofs.Common.{◌≡◌, length, take}
use Rattle.rj_shards.proofs.division.header.widened_types.Given as goal

abbrev pub invariant-loop-col : goal.invariant-loop-col
invariant-loop-col l = record {
  types : l.types.items ≡ take l.col l.table.types;
  end : l.col-end ≡ length l.table.types;
}
