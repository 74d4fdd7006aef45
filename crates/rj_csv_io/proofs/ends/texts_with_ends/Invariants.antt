use Rattle.std.proofs.Common.{◌≡◌, ◌≤◌, ◌-◌, List, map}
use Rattle.std.specs.List.{concat}
use Rattle.rj_columns.specs.Contents.{Content}
use Rattle.rj_csv_io.specs.Ends.{AreEnded}
use Rattle.rj_csv_io.specs.Shown.{range_text}
use Rattle.rj_csv_io.proofs.ends.texts_with_ends.Given as goal

abbrev pub invariant-loop-row : goal.invariant-loop-row
invariant-loop-row g l = record {
  texts : (rows : List (List Content)) → AreEnded l.format.delimiter l.format.null.now (g.S.RowSource.contents l.fronts) rows l.ends
      → concat (map (λ t. t.items) l.texts.items) ≡ range_text l.format.delimiter l.format.null.now rows 0 l.row;
  high : l.row ≤ l.to;
}

abbrev pub decreases-loop-row : goal.decreases-loop-row
decreases-loop-row g l = l.to - l.row
