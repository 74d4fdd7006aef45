use Rattle.std.proofs.Common.{◌<◌, ◌≤◌, ◌-◌, ℕ, length, slice_index_or}
use Rattle.rj_columns.proofs.hashing.run_end.Given as goal

abbrev pub invariant-loop-next : goal.invariant-loop-next
invariant-loop-next l = record {
  more : l.place < l.next;
  inside : l.next ≤ length l.rows;
  each : (k : ℕ) → l.place ≤ k → k < l.next → (l.start ≤ slice_index_or l.rows k 0) × (slice_index_or l.rows k 0 < l.end);
}

abbrev pub decreases-loop-next : goal.decreases-loop-next
decreases-loop-next l = length l.rows - l.next
