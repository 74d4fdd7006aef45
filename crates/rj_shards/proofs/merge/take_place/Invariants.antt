use Rattle.std.proofs.Common.{◌+◌, ◌-◌, ◌<◌, ◌^◌, ◌∷◌, ℕ, Bool, Some}
use Rattle.std.specs.List.Sorted.{IsPermutation}
use Rattle.std.specs.BinaryHeap.{IsHeap, heap_items}
use Rattle.rj_shards.specs.Merging.{AllTell, AreAmong, AreNewest, AreNotBelow, faults_of_heads, head_order, rows_of_heads}
use Rattle.rj_shards.proofs.MergeTakenFacts.{Takes}
use Rattle.rj_shards.proofs.merge.take_place.Given as goal

abbrev pub invariant-heads : goal.invariant-heads
invariant-heads g l = record {
  small : l.needed < 2 ^ 32;
  heap : IsHeap head_order (heap_items l.heads);
  newest : AreNewest g.S.Source.last (heap_items l.heads);
  low : AreNotBelow (Some l.next.place) (heap_items l.heads);
  tells : AllTell g.S.Source.tells (l.fn.first ∷ heap_items l.fn.heads) → AllTell g.S.Source.tells (heap_items l.heads);
  among : (numbers : ℕ → Bool) → AreAmong g.S.Source.number numbers (l.fn.first ∷ heap_items l.fn.heads) → AreAmong g.S.Source.number numbers (heap_items l.heads);
  rows : AllTell g.S.Source.tells (l.fn.first ∷ heap_items l.fn.heads)
      → Takes l.next l.needed l.times (rows_of_heads g.S.Source.copies g.S.Source.reading (l.fn.first ∷ heap_items l.fn.heads)) (rows_of_heads g.S.Source.copies g.S.Source.reading (heap_items l.heads));
  faults : AllTell g.S.Source.tells (l.fn.first ∷ heap_items l.fn.heads)
      → IsPermutation (faults_of_heads g.S.Source.reading (l.fn.first ∷ heap_items l.fn.heads)) (faults_of_heads g.S.Source.reading (heap_items l.heads));
}

abbrev pub decreases-heads : goal.decreases-heads
decreases-heads g l = l.needed + 1 - l.times
