use Rattle.std.proofs.Common.{◌≡◌, length, map, take}
use Rattle.rj_shards.proofs.division.header.widened_names.Given as goal

abbrev pub invariant-loop-col : goal.invariant-loop-col
invariant-loop-col l = record {
  names : map (λ n. n.now) l.names.items ≡ take l.col l.table.names;
  end : l.col-end ≡ length l.table.types;
  all : length l.table.names ≡ l.col-end;
}
