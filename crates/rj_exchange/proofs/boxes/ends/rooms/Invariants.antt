use Rattle.std.proofs.Common.{◌≡◌, length, All}
use Rattle.rj_exchange.specs.Internal.Ends.{IsRoom}
use Rattle.rj_exchange.proofs.boxes.ends.rooms.Given as goal

abbrev pub invariant-loop : goal.invariant-loop
invariant-loop l = (length l.rooms.items ≡ l.counter) × All (IsRoom l.capacity) l.rooms.items
