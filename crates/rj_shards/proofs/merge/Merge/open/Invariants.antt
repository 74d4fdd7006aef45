use Rattle.std.proofs.Common.{◌≡◌, ◌++◌, ℕ, Bool, true, None, All, vec_len}
use Rattle.std.specs.List.Sorted.{IsPermutation}
use Rattle.std.specs.BinaryHeap.{heap_items}
use Rattle.rj_shards.specs.Merging.{AllTell, AreAmong, AreHeads, faults_of_heads, faults_of_inputs, rows_of_heads, rows_of_inputs}
use Rattle.rj_shards.proofs.merge.Merge.open.Given as goal

abbrev pub invariant-inputs : goal.invariant-inputs
invariant-inputs g l = record {
  lawful : AreHeads g.S.Source.last l.merge.passed (heap_items l.merge.heads);
  passed : l.merge.passed ≡ None;
  tells : All g.S.Source.tells l.fn.inputs.items → All g.S.Source.tells l.inputs.items × AllTell g.S.Source.tells (heap_items l.merge.heads);
  among : (numbers : ℕ → Bool) → All (λ s. numbers (g.S.Source.number s) ≡ true) l.fn.inputs.items
      → All (λ s. numbers (g.S.Source.number s) ≡ true) l.inputs.items × AreAmong g.S.Source.number numbers (heap_items l.merge.heads);
  rows : All g.S.Source.tells l.fn.inputs.items
      → IsPermutation (rows_of_inputs g.S.Source.copies g.S.Source.reading l.fn.inputs.items) (rows_of_inputs g.S.Source.copies g.S.Source.reading l.inputs.items ++ rows_of_heads g.S.Source.copies g.S.Source.reading (heap_items l.merge.heads));
  faults : All g.S.Source.tells l.fn.inputs.items
      → IsPermutation (faults_of_inputs g.S.Source.reading l.fn.inputs.items) (faults_of_inputs g.S.Source.reading l.inputs.items ++ faults_of_heads g.S.Source.reading (heap_items l.merge.heads));
}

abbrev pub decreases-inputs : goal.decreases-inputs
decreases-inputs g l = vec_len l.inputs
