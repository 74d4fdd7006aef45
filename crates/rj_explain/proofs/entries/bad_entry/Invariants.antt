use Rattle.std.proofs.Common.{List, ℕ, All, length}
use denote.Text.{Utf8}
use denote.Shadow.{shadow}
use Rattle.rj_explain.specs.Entries.{split_entries}
use Rattle.rj_explain.specs.Listed.{IsFirstBad, IsList}
use Rattle.rj_explain.proofs.entries.bad_entry.Given as goal

abbrev pub invariant-loop-more : goal.invariant-loop-more
invariant-loop-more l = record {
  text : shadow (Utf8 l.left);
  bad : (entry : List ℕ) → IsFirstBad l.left entry → IsFirstBad l.list entry;
  good : All IsList (split_entries l.left) → All IsList (split_entries l.list);
}

abbrev pub decreases-loop-more : goal.decreases-loop-more
decreases-loop-more l = length l.left
