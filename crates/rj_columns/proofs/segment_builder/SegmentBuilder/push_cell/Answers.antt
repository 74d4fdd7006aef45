use Rattle.std.proofs.Common.{rules, ◌≡◌, ◌∙◌, map, length, refl, ap, ℕ, List, slice_index_or, add-one, take}
use Rattle.rj_columns.proofs.RowFacts.{Filling-size, grown, FitsAt-inside, FitsAt-type, grown-fills, grown-kinds, grown-length, grown-rows, grown-hand, grown-typed}
use Rattle.rj_columns.specs.Internal.Columns.{ColumnValue, Filling, row_at}
use Rattle.rj_columns.specs.Contents.{Content, content_of}
use Rattle.rj_columns.specs.Tables.{FitsAt}
use Rattle.rj_columns.proofs.segment_builder.SegmentBuilder.push_cell.Goals as goal

fits : (columns : List ColumnValue) (k n : ℕ) (x : Content) → Filling columns k n → FitsAt (map (λ c. c.kind) columns) (length (row_at (take k columns) n)) x → FitsAt (map (λ c. c.kind) columns) k x
fits columns k n x h f = rw (Filling-size columns k n h) at f

pub index_mut-requires : goal.index_mut-requires
index_mut-requires c =
    let f = fits c.self.inside.columns.items c.self.inside.filled c.self.inside.rows (content_of c.args.cell) c.self.invariant.filling (rw (← c.self.view_is) at c.requires) in
    let low = FitsAt-inside c.self.inside.columns.items c.self.inside.filled (content_of c.args.cell) f in
    search rules

pub push-requires : goal.push-requires
push-requires c =
    let f = fits c.self.inside.columns.items c.self.inside.filled c.self.inside.rows (content_of c.args.cell) c.self.invariant.filling (rw (← c.self.view_is) at c.requires) in
    FitsAt-type c.self.inside.columns.items c.self.inside.filled (content_of c.args.cell) c.index_mut.result.now f c.index_mut.ensures.value

pub overflow_add-self : goal.overflow_add-self
overflow_add-self c =
    let f = fits c.self.inside.columns.items c.self.inside.filled c.self.inside.rows (content_of c.args.cell) c.self.invariant.filling (rw (← c.self.view_is) at c.requires) in
    let low = FitsAt-inside c.self.inside.columns.items c.self.inside.filled (content_of c.args.cell) f in
    search rules

made : (columns : List ColumnValue) (k : ℕ) (x : Content) (c new : ColumnValue) → c ≡ slice_index_or columns k c → new ≡ grown c x → new ≡ grown (slice_index_or columns k c) x
made columns k x c new at new_is = new_is ∙ ap (λ (v : ColumnValue). grown v x) at

pub invariant_of-self-2 : goal.invariant_of-self-2
invariant_of-self-2 c =
    let f = fits c.self.inside.columns.items c.self.inside.filled c.self.inside.rows (content_of c.args.cell) c.self.invariant.filling (rw (← c.self.view_is) at c.requires) in
    let low = FitsAt-inside c.self.inside.columns.items c.self.inside.filled (content_of c.args.cell) f in
    let m = made c.self.inside.columns.items c.self.inside.filled (content_of c.args.cell) c.index_mut.result.now c.push.new.self c.index_mut.ensures.value c.in_ok-push.ensures.ok in
    let size = grown-length c.self.inside.columns.items c.self.inside.filled (content_of c.args.cell) c.index_mut.result.now in
    rw (m, add-one) record {
      filling = grown-fills c.self.inside.columns.items c.self.inside.filled c.self.inside.rows (content_of c.args.cell) c.index_mut.result.now c.self.invariant.filling low;
      typed = grown-typed c.self.inside.columns.items c.self.inside.filled (content_of c.args.cell) c.index_mut.result.now c.self.invariant.typed f;
      within = c.self.invariant.within;
    }

pub returns-clause-ok : goal.returns-clause-ok
returns-clause-ok c =
    let f = fits c.self.inside.columns.items c.self.inside.filled c.self.inside.rows (content_of c.args.cell) c.self.invariant.filling (rw (← c.self.view_is) at c.requires) in
    let low = FitsAt-inside c.self.inside.columns.items c.self.inside.filled (content_of c.args.cell) f in
    let m = made c.self.inside.columns.items c.self.inside.filled (content_of c.args.cell) c.index_mut.result.now c.push.new.self c.index_mut.ensures.value c.in_ok-push.ensures.ok in
    let kinds = grown-kinds c.self.inside.columns.items c.self.inside.filled (content_of c.args.cell) c.index_mut.result.now in
    let rows = grown-rows c.self.inside.columns.items c.self.inside.filled c.self.inside.rows (content_of c.args.cell) c.index_mut.result.now c.self.invariant.filling in
    let hand = grown-hand c.self.inside.columns.items c.self.inside.filled c.self.inside.rows (content_of c.args.cell) c.index_mut.result.now c.self.invariant.filling low in
    rw (m, add-one, kinds, rows, hand, ← c.self.view_is) refl
