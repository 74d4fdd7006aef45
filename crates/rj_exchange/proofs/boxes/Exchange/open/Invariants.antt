use Rattle.std.proofs.Common.{◌≡◌, ℕ, ◌<◌, ◌+◌, ◌*◌, [], length, get_or, All}
use Rattle.crossbeam_queue.specs.Passes.{ruled_capacity}
use Rattle.rj_exchange.specs.declared.boxes.Outbox.{Outbox}
use Rattle.rj_exchange.specs.Boxes.{Queue}
use Rattle.rj_exchange.proofs.Opening.{AreBoxes, AreFreshEnds, AreInboxes}
use Rattle.rj_exchange.proofs.boxes.Exchange.open.Given as goal

abbrev pub invariant-loop-number : goal.invariant-loop-number
invariant-loop-number l = record {
  many : length l.boxes.items ≡ l.number;
  fresh : (i : ℕ) (b : Outbox) → i < l.number → ((get_or l.boxes.items i b).number ≡ i) × ((get_or l.boxes.items i b).stubs.items ≡ []);
}

abbrev pub invariant-loop-partition : goal.invariant-loop-partition
invariant-loop-partition l = record {
  count : length l.queues.items ≡ l.partition * l.lanes;
  caps : All (λ (q : Queue). ruled_capacity q ≡ l.capacity) l.queues.items;
  boxes : AreBoxes l.lanes l.outboxes l.queues.items l.boxes.items;
  inboxes : AreInboxes l.lanes l.outboxes l.partition l.queues.items l.inboxes.items;
}

abbrev pub invariant-loop-lane : goal.invariant-loop-lane
invariant-loop-lane l = record {
  count : length l.queues.items ≡ l.partition * l.lanes + l.lane;
  caps : All (λ (q : Queue). ruled_capacity q ≡ l.capacity) l.queues.items;
  boxes : AreBoxes l.lanes l.outboxes l.queues.items l.boxes.items;
  inboxes : AreInboxes l.lanes l.outboxes l.partition l.queues.items l.inboxes.items;
  ends : AreFreshEnds l.lanes l.outboxes l.partition l.lane l.queues.items l.ends.items;
}
