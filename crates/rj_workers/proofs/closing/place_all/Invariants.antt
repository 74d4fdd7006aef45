use Rattle.std.proofs.Common.{◌≡◌, ◌++◌, ◌<◌, ℕ, length}
use Rattle.std.specs.Prelude.{slice_index_or}
use Rattle.std.specs.Vec.Iter.{into_iter_items, into_iter_len}
use Rattle.rj_workers.specs.Internal.Takes.{IsSlot}
use Rattle.rj_workers.proofs.closing.place_all.Given as goal

abbrev pub invariant-loop-group : goal.invariant-loop-group
invariant-loop-group g l = record {
  rest : l.yielded ++ into_iter_items l.group-iterator ≡ l.fn.groups.items;
  rest_len : into_iter_len l.group-iterator ≡ length (into_iter_items l.group-iterator);
  len : length l.slots.items ≡ l.shared.exchange.now.partitions;
  each : (p : ℕ) (d : _) → p < l.shared.exchange.now.partitions → IsSlot (g.J.Job.builds l.shared.job.now) l.shared.exchange.now l.shared.settings.workers l.shared.settings.block p (slice_index_or l.slots.items p d);
}
