use Rattle.std.proofs.Common.{◌≡◌, ◌++◌, ◌+◌, ◌<◌, ◌*◌, ℕ, [], map, length, drop}
use Rattle.std.specs.Prelude.{slice_index_or}
use Rattle.std.specs.Vec.Iter.{into_iter_items, into_iter_len}
use Rattle.rj_workers.specs.Arrivals.{stub_lists}
use Rattle.rj_workers.specs.Internal.Ends.{IsEnded}
use Rattle.rj_workers.proofs.ending.finish_all.Given as goal

abbrev pub invariant-loop-slot : goal.invariant-loop-slot
invariant-loop-slot g l = let e = l.shared.exchange.now in record {
  rest : l.yielded ++ into_iter_items l.slot-iterator ≡ l.fn.slots.items;
  rest_len : into_iter_len l.slot-iterator ≡ length (into_iter_items l.slot-iterator);
  many : length l.lists.items ≡ e.outboxes;
  left : (o : ℕ) → o < e.outboxes → slice_index_or (map into_iter_items l.lists.items) o [] ≡ drop (length l.yielded * e.lanes) (slice_index_or (stub_lists l.fn.outboxes.items) o []);
  len : length l.all.items ≡ length l.yielded;
  each : (p : ℕ) (d : _) → p < length l.yielded → IsEnded (g.J.Job.builds l.shared.job.now) (l.shared.settings.workers + l.shared.settings.workers) l.shared.settings.block e (stub_lists l.fn.outboxes.items) p (slice_index_or l.all.items p d);
}
