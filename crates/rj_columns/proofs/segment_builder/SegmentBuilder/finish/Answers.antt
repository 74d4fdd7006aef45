use Rattle.std.proofs.Common.{◌≡◌, ◌∙◌, [], ℕ, List, take, sym, ap, length}
use Rattle.rj_columns.specs.Internal.Columns.{ColumnValue, Filling, row_at}
use Rattle.rj_columns.specs.Tables.{BuilderValue}
use Rattle.rj_columns.proofs.RowFacts.{Filling-size}
use Rattle.rj_columns.proofs.segment_builder.SegmentBuilder.finish.Goals as goal

-- no cell of a row at hand
none-filled : (columns : List ColumnValue) (k n : ℕ) → Filling columns k n → row_at (take k columns) n ≡ [] → Filling columns 0 n
none-filled columns k n h e = let none : k ≡ 0 = sym (Filling-size columns k n h) ∙ ap length e in rw none at h

pub invariant_of-result : goal.invariant_of-result
invariant_of-result c =
    let same = c.builder.view_is ∙ c.drop_row.ensures in
    let row : row_at (take c.builder.inside.filled c.builder.inside.columns.items) c.builder.inside.rows ≡ [] = ap (λ (b : BuilderValue). b.row) same in
    record {
      filling = none-filled c.builder.inside.columns.items c.builder.inside.filled c.builder.inside.rows c.builder.invariant.filling row;
      typed = c.builder.invariant.typed;
      within = c.builder.invariant.within;
    }
