use Rattle.std.proofs.Common.{◌≡◌, ◌+◌, [], length, All}
use Rattle.rj_exchange.specs.Tickets.{IsNew}
use Rattle.rj_exchange.specs.Drawing.{draw}
use Rattle.rj_exchange.proofs.Seats.{IsDealt}
use Rattle.rj_exchange.proofs.tickets.Tickets.open.Given as goal

abbrev pub invariant-loop : goal.invariant-loop
invariant-loop l = record {
  same : l.all.table_id ≡ l.table.shared.table_id;
  view : l.all.me ≡ (draw l.n l.all.me.0.parts [] 0, []);
  parts : l.all.me.0.parts + length l.dealt.items ≡ l.seats;
  dealt : length l.dealt.items + 1 ≡ l.counter;
  theirs : All (IsDealt l.table.shared.table_id l.n) l.dealt.items;
  fresh : All IsNew l.dealt.items;
}
