use Rattle.std.proofs.Common.{◌≡◌, ◌++◌, length}
use Rattle.std.specs.Vec.Iter.{into_iter_items, into_iter_len}
use Rattle.rj_workers.specs.Internal.Scans.{scanner_draws, scanner_outboxes, scanner_seats}
use Rattle.rj_workers.proofs.workers.make_scanners.Given as goal

abbrev pub invariant-loop-outbox : goal.invariant-loop-outbox
invariant-loop-outbox l = record {
  rest : l.yielded ++ into_iter_items l.outbox-iterator ≡ l.fn.outboxes.items;
  rest_len : into_iter_len l.outbox-iterator ≡ length (into_iter_items l.outbox-iterator);
  outboxes : scanner_outboxes l.scanners.items ≡ l.yielded;
  seats : scanner_seats l.scanners.items ++ into_iter_items l.seats ≡ into_iter_items l.fn.seats;
  draws : scanner_draws l.scanners.items ++ into_iter_items l.left ≡ l.fn.draws.items;
}
