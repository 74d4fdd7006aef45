use Rattle.std.proofs.Common.{◌≡◌, ◌∙◌, map, length, refl, sym, arith, ℕ, List, take}
use Rattle.rj_columns.proofs.RowFacts.{length-rows_of, Filling-size, Filling-end, rows_of-end, row_at-typed}
use Rattle.rj_columns.specs.Internal.Columns.{ColumnValue, Filling, row_at}
use Rattle.std.proofs.lemmas.List.{length-map}
use Rattle.std.proofs.Math.Seq.{take-length}
use Rattle.rj_columns.proofs.segment_builder.SegmentBuilder.end_row.Goals as goal

every : (columns : List ColumnValue) (k n : ℕ) → Filling columns k n → length (row_at (take k columns) n) ≡ length (map (λ c. c.kind) columns) → k ≡ length columns
every columns k n h e =
    let size = Filling-size columns k n h in
    let kinds : length (map (λ (c : ColumnValue). c.kind) columns) ≡ length columns = length-map columns (λ (c : ColumnValue). c.kind) in
    sym size ∙ e ∙ kinds

pub overflow_add-self : goal.overflow_add-self
overflow_add-self c =
    let room = rw (← c.self.view_is) at c.requires.room in
    let size = length-rows_of c.self.inside.columns.items c.self.inside.rows in
    omega arith

pub invariant_of-self : goal.invariant_of-self
invariant_of-self c =
    let all = every c.self.inside.columns.items c.self.inside.filled c.self.inside.rows c.self.invariant.filling (rw (← c.self.view_is) at c.requires.full) in
    let room = rw (← c.self.view_is) at c.requires.room in
    let size = length-rows_of c.self.inside.columns.items c.self.inside.rows in
    record {
      filling = Filling-end c.self.inside.columns.items c.self.inside.filled c.self.inside.rows c.self.invariant.filling all;
      typed = c.self.invariant.typed;
      within = omega arith;
    }

pub returns-clause-ended : goal.returns-clause-ended
returns-clause-ended c =
    let all = every c.self.inside.columns.items c.self.inside.filled c.self.inside.rows c.self.invariant.filling (rw (← c.self.view_is) at c.requires.full) in
    rw (rows_of-end c.self.inside.columns.items c.self.inside.filled c.self.inside.rows all, ← c.self.view_is) refl

pub returns-clause-typed : goal.returns-clause-typed
returns-clause-typed c =
    let all = every c.self.inside.columns.items c.self.inside.filled c.self.inside.rows c.self.invariant.filling (rw (← c.self.view_is) at c.requires.full) in
    rw (← c.self.view_is, all, take-length c.self.inside.columns.items) (row_at-typed c.self.inside.columns.items c.self.inside.rows c.self.invariant.typed)
