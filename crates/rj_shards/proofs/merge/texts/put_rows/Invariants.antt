use Rattle.std.proofs.Common.{◌≡◌, ℕ, Bool, true, All}
use Rattle.std.specs.BinaryHeap.{heap_items}
use Rattle.rj_shards.specs.Inputs.{boxed_copies, boxed_number, boxed_reading, boxed_tells}
use Rattle.rj_shards.specs.Merging.{AreAmong, AreHeads}
use Rattle.rj_shards.proofs.MergePutFacts.{HasPut, source_last}
use Rattle.rj_shards.proofs.merge.texts.put_rows.Given as goal

abbrev pub invariant-rows : goal.invariant-rows
invariant-rows g l = record {
  lawful : AreHeads source_last l.merge.passed (heap_items l.merge.heads);
  put : HasPut l.delimiter (boxed_tells g.R.Read.remaining) boxed_copies (boxed_reading g.R.Read.remaining) l.fn.sources.items l.merge.passed (heap_items l.merge.heads) (g.O.Output.told l.fn.output) l.fn.block l.block (g.O.Output.told l.output);
  among : (numbers : ℕ → Bool) → All (λ b. numbers (boxed_number b) ≡ true) l.fn.sources.items → AreAmong boxed_number numbers (heap_items l.merge.heads);
  count : g.O.Output.count l.output ≡ g.O.Output.count l.fn.output;
}
