use Rattle.std.proofs.Common.{ℕ, Bool, None}
use Rattle.std.specs.BinaryHeap.{heap_items}
use Rattle.rj_shards.specs.declared.merge.place.Place.{Place}
use Rattle.rj_shards.specs.Merging.{AllTell, AreAmong, AreHeads}
use Rattle.rj_shards.specs.Places.{IsAbove}
use Rattle.rj_shards.specs.Steps.{IsStep, stage_of}
use Rattle.rj_shards.proofs.merge.Merge.next.Given as goal

abbrev pub invariant-places : goal.invariant-places
invariant-places g l = record {
  lawful : AreHeads g.S.Source.last l.self.passed (heap_items l.self.heads);
  onward : (place : Place) → IsAbove l.self.passed place → IsAbove l.fn.self.passed place;
  tells : AllTell g.S.Source.tells (heap_items l.fn.self.heads) → AllTell g.S.Source.tells (heap_items l.self.heads);
  among : (numbers : ℕ → Bool) → AreAmong g.S.Source.number numbers (heap_items l.fn.self.heads) → AreAmong g.S.Source.number numbers (heap_items l.self.heads);
  step : AllTell g.S.Source.tells (heap_items l.fn.self.heads)
      → IsStep (stage_of g.S.Source.copies g.S.Source.reading l.fn.self.passed (heap_items l.fn.self.heads)) None
      (stage_of g.S.Source.copies g.S.Source.reading l.self.passed (heap_items l.self.heads));
}
