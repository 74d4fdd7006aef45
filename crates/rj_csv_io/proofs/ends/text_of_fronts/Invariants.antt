use Rattle.std.proofs.Common.{◌≡◌, ◌<◌, ◌+◌, ◌++◌, ℕ, List, [], length, take}
use Rattle.std.specs.Prelude.{slice_index_or}
use Rattle.std.specs.List.{concat}
use Rattle.rj_csv_io.specs.Ends.{but_last, end_at}
use Rattle.rj_csv_io.proofs.ends.text_of_fronts.Given as goal

abbrev pub invariant-loop-k : goal.invariant-loop-k
invariant-loop-k l = record {
  text : (records : List (List ℕ)) → length records ≡ length l.fronts
      → ((k : ℕ) → k < length l.fronts → slice_index_or records k [] ≡ but_last (slice_index_or l.fronts k []) ++ end_at l.ends (l.from + k))
      → l.text.items ≡ concat (take l.k records);
  end : l.k-end ≡ length l.fronts;
}
