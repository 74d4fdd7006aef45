use Rattle.std.proofs.Common.{◌≡◌, ℕ, ◌+◌, ◌*◌, ◌<◌, ◌≤◌, length, get_or}
use Rattle.std.specs.Vec.Iter.{into_iter_items}
use Rattle.rj_exchange.specs.declared.boxes.Stub.{Stub}
use Rattle.rj_exchange.specs.Boxes.{Queue}
use Rattle.rj_exchange.specs.Internal.Ends.{IsLater, IsGrown}
use Rattle.rj_exchange.proofs.boxes.ends.round.Given as goal

abbrev pub invariant-loop-lane : goal.invariant-loop-lane
invariant-loop-lane l = record {
  many : length l.ends.items ≡ l.exchange.lanes;
  later : IsLater l.lane (into_iter_items l.fn.stubs) (into_iter_items l.stubs);
  done : (k : ℕ) (q : Queue) (s t u : Stub) → k < l.lane → IsGrown (get_or l.exchange.queues.items (l.partition * l.exchange.lanes + k) q) (get_or l.fn.ends.items k s) (get_or (into_iter_items l.fn.stubs) k t) (get_or l.ends.items k u);
  yet : (k : ℕ) (s : Stub) → l.lane ≤ k → get_or l.ends.items k s ≡ get_or l.fn.ends.items k s;
}
