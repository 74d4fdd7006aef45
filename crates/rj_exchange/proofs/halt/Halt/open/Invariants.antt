use Rattle.std.proofs.Common.{◌≡◌, ◌+◌, [], length, All}
use Rattle.rj_exchange.specs.Halt.{IsNewHalt}
use Rattle.rj_exchange.specs.Halting.{halt_token}
use Rattle.rj_exchange.proofs.HaltSeats.{IsHaltAt}
use Rattle.rj_exchange.proofs.halt.Halt.open.Given as goal

abbrev pub invariant-loop : goal.invariant-loop
invariant-loop l = record {
  same : l.all.table_id ≡ l.table.shared.table_id;
  view : l.all.me ≡ (halt_token l.all.me.0.parts 0 0, []);
  parts : l.all.me.0.parts + length l.dealt.items ≡ l.fn.seats;
  dealt : length l.dealt.items + 1 ≡ l.counter;
  theirs : All (IsHaltAt l.table.shared.table_id) l.dealt.items;
  fresh : All IsNewHalt l.dealt.items;
}
