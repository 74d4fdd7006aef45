use Rattle.std.proofs.Common.{◌≡◌, ℕ, ◌+◌, ◌*◌, ◌<◌, length, get_or}
use Rattle.std.specs.Vec.Iter.{into_iter_items}
use Rattle.rj_exchange.specs.declared.boxes.Stub.{Stub}
use Rattle.rj_exchange.specs.Boxes.{Queue}
use Rattle.rj_exchange.specs.Internal.Ends.{IsLater, Knows, known_of}
use Rattle.rj_exchange.proofs.boxes.ends.give_back_all.Given as goal

abbrev pub invariant-loop-outbox : goal.invariant-loop-outbox
invariant-loop-outbox l = record {
  many : length l.ends.items ≡ l.exchange.lanes;
  later : IsLater (l.outbox * l.exchange.lanes) l.fn.stubs.items (into_iter_items l.left);
  knows : (k : ℕ) (q : Queue) (s u : Stub) → k < l.exchange.lanes
      → Knows (get_or l.exchange.queues.items (l.partition * l.exchange.lanes + k) q) (get_or l.fn.ends.items k s) (known_of l.exchange.lanes l.fn.stubs.items k l.outbox) (get_or l.ends.items k u);
}
