use Rattle.std.proofs.Common.{◌≡◌, ◌+◌, [], length, All}
use Rattle.rj_exchange.specs.Totals.{total}
use Rattle.rj_exchange.proofs.HaltSeats.{IsHaltAt, raises_of, sees_of}
use Rattle.rj_exchange.proofs.halt.Halt.finish.Given as goal

abbrev pub invariant-loop-next : goal.invariant-loop-next
invariant-loop-next l = record {
  same : l.all.table_id ≡ l.table.shared.table_id;
  empty : l.all.me.1 ≡ [];
  parts : l.all.me.0.parts + length l.seats.items ≡ l.table.shared.key;
  raises : l.all.me.0.raises + total raises_of l.seats.items ≡ total raises_of l.fn.seats.items;
  sees : l.all.me.0.sees + total sees_of l.seats.items ≡ total sees_of l.fn.seats.items;
  theirs : All (IsHaltAt l.table.shared.table_id) l.seats.items;
}

abbrev pub decreases-loop-next : goal.decreases-loop-next
decreases-loop-next l = goal.left-loop-next l
