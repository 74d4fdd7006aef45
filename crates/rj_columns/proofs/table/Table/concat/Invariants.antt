use Rattle.std.proofs.Common.{◌≡◌, ◌∷◌}
use Rattle.std.specs.Vec.Iter.{into_iter_items, into_iter_len}
use Rattle.rj_columns.specs.Tables.{AreAlike, concatenated}
use Rattle.rj_columns.proofs.table.Table.concat.Given as goal

abbrev pub invariant-loop-part : goal.invariant-loop-part
invariant-loop-part l = record {
  alike : AreAlike (l.whole ∷ into_iter_items l.left);
  same : concatenated (l.whole ∷ into_iter_items l.left) ≡ concatenated l.fn.parts.items;
}

abbrev pub decreases-loop-part : goal.decreases-loop-part
decreases-loop-part l = into_iter_len l.left
