use Rattle.std.proofs.Common.{◌≡◌, ◌<◌, ◌≤◌, ◌+◌, ◌++◌, ◌^◌, All, List, ℕ, true, map, vec_len}
use Rattle.std.specs.Vec.Iter.{into_iter_items, into_iter_len}
use Rattle.csv.specs.Records.{fields_of}
use Rattle.rj_shards.specs.Inputs.{TellTexts, copies_of, is_input, own_copies, own_number}
use Rattle.rj_shards.proofs.OpeningFacts.{HasOpened}
use Rattle.rj_shards.proofs.merge.opening.open_all.Given as goal

abbrev pub invariant-inputs : goal.invariant-inputs
invariant-inputs g l = record {
  count : l.input + into_iter_len l.left < 2 ^ 32;
  all : l.input + into_iter_len l.left ≡ vec_len l.fn.inputs;
  low : 1 ≤ l.input;
  numbers : All (λ s. is_input (vec_len l.fn.inputs) (own_number s) ≡ true) l.sources.items;
  copies : map own_copies l.sources.items ++ copies_of (into_iter_items l.left) ≡ copies_of l.fn.inputs.items;
  opened : (texts : List (List ℕ)) → TellTexts g.R.Read.remaining l.fn.inputs.items texts
      → HasOpened g.R.Read.remaining l.how texts (fields_of l.header.names) l.sources.items l.input (into_iter_items l.left);
}

abbrev pub decreases-inputs : goal.decreases-inputs
decreases-inputs g l = into_iter_len l.left
