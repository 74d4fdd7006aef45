use Rattle.std.proofs.Common.{◌≡◌, ◌+◌, ℕ, [], length, All}
use Rattle.rj_exchange.specs.Totals.{total}
use Rattle.rj_exchange.specs.Tickets.{drawn_by}
use Rattle.rj_exchange.proofs.Seats.{IsAt, nones}
use Rattle.rj_exchange.proofs.tickets.Tickets.finish.Given as goal

abbrev pub invariant-loop-next : goal.invariant-loop-next
invariant-loop-next l = record {
  same : l.all.table_id ≡ l.table.shared.table_id;
  empty : l.all.me.1 ≡ [];
  parts : l.all.me.0.parts + length l.seats.items ≡ l.table.shared.key.seats;
  numbers : (h : ℕ → ℕ) → total h l.all.me.0.drawn + total (λ s. total h (drawn_by s)) l.seats.items ≡ total (λ s. total h (drawn_by s)) l.fn.seats.items;
  spent : l.all.me.0.nones + total nones l.seats.items ≡ total nones l.fn.seats.items;
  theirs : All (IsAt l.table.shared.table_id) l.seats.items;
}

abbrev pub decreases-loop-next : goal.decreases-loop-next
decreases-loop-next l = goal.left-loop-next l
