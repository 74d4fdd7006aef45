use Rattle.std.proofs.Common.{◌≡◌, ℕ, ◌++◌, ◌<◌, ◌≤◌, All, length, get_or}
use Rattle.crossbeam_queue.specs.Passes.{view}
use Rattle.rj_exchange.specs.declared.boxes.Stub.{Stub}
use Rattle.rj_exchange.specs.Passing.{Belongs, Interleaves}
use Rattle.rj_exchange.specs.Boxes.{PostedVec, taken_of}
use Rattle.rj_exchange.proofs.boxes.ends.drain_all.Given as goal

abbrev pub invariant-loop-lane : goal.invariant-loop-lane
invariant-loop-lane g l = record {
  ends : length l.ends.items ≡ l.exchange.lanes;
  rooms : length l.rest.items ≡ l.exchange.lanes;
  done : (k : ℕ) (s : Stub) (v : PostedVec) → k < l.lane → Interleaves (view (get_or l.fn.ends.items k s).pass).known (taken_of (get_or l.fn.ends.items k s) ++ (get_or l.rest.items k v).items);
  placed : (k : ℕ) (s : Stub) (v : PostedVec) → k < l.lane → All (Belongs (view (get_or l.fn.ends.items k s).pass).place) (get_or l.rest.items k v).items;
  yet : (k : ℕ) (s : Stub) → l.lane ≤ k → get_or l.ends.items k s ≡ get_or l.fn.ends.items k s;
  empty : (k : ℕ) (v : PostedVec) → l.lane ≤ k → get_or l.rest.items k v ≡ get_or l.fn.rest.items k v;
}
