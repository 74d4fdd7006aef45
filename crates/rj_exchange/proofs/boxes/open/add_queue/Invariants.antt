use Rattle.std.proofs.Common.{◌≡◌, ℕ, ◌<◌, ◌≤◌, [], length, get_or}
use Rattle.crossbeam_queue.specs.Passes.{view, IsPassOf}
use Rattle.rj_exchange.specs.declared.boxes.Outbox.{Outbox}
use Rattle.rj_exchange.specs.Passing.{taker}
use Rattle.rj_exchange.specs.Internal.Opening.{place_of, AddsStub}
use Rattle.rj_exchange.proofs.boxes.open.add_queue.Given as goal

abbrev pub ghosts-queue_at : goal.ghosts-queue_at
ghosts-queue_at a = record { place = record { partition = a.partition; lane = a.lane; lanes = a.lanes; outboxes = a.outboxes } }

abbrev pub invariant-loop-at : goal.invariant-loop-at
invariant-loop-at l = record {
  end : IsPassOf l.queue l.end.pass × (view l.end.pass ≡ taker (place_of l.fn.partition l.fn.lane l.fn.lanes l.fn.outboxes) l.at [] []);
  many : length l.boxes.items ≡ l.fn.outboxes;
  done : (i : ℕ) (b d : Outbox) → i < l.at → AddsStub (place_of l.fn.partition l.fn.lane l.fn.lanes l.fn.outboxes) i l.queue (get_or l.fn.boxes.items i b) (get_or l.boxes.items i d);
  yet : (i : ℕ) (b : Outbox) → l.at ≤ i → get_or l.boxes.items i b ≡ get_or l.fn.boxes.items i b;
}
