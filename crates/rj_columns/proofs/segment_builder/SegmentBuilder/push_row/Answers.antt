use Rattle.std.proofs.Common.{◌≡◌, ◌∙◌, ℕ, List, map, length, refl, sym, ap, arith}
use Rattle.std.proofs.lemmas.List.{length-map}
use Rattle.rj_columns.specs.Contents.{Content, content_of}
use Rattle.rj_columns.specs.Internal.Columns.{ColumnValue, Filling, cut, changed, without, grown_by}
use Rattle.rj_columns.specs.Tables.{FitsTypes}
use Rattle.rj_columns.proofs.RowFacts.{length-rows_of, Filling-within, FitsTypes-length, length-cut, cut-kinds, cut-fills, cut-typed, cut-rows}
use Rattle.rj_columns.proofs.PushFacts.{length-grown_by, grown_by-kinds, removed-grown, grown_by-fills, grown_by-rows, grown_by-typed}
use Rattle.rj_columns.proofs.segment_builder.SegmentBuilder.push_row.Goals as goal

-- as many cells as columns
wide : (columns : List ColumnValue) (cells : List Content) → FitsTypes (map (λ c. c.kind) columns) cells → length cells ≡ length columns
wide columns cells fits = sym (FitsTypes-length (map (λ (c : ColumnValue). c.kind) columns) cells fits) ∙ length-map columns (λ (c : ColumnValue). c.kind)

-- what stands in the end: the cells on the columns without the row at hand
settled : (columns pushed now : List ColumnValue) (k n : ℕ) (cells : List Content) → Filling columns k n → FitsTypes (map (λ c. c.kind) columns) cells
    → pushed ≡ grown_by cells columns → now ≡ changed (without n) k pushed → now ≡ grown_by cells (cut n k columns)
settled columns pushed now k n cells fill fits grown left = left ∙ ap (changed (without n) k) grown ∙ removed-grown columns k n cells fill (wide columns cells fits)

pub remove_each-requires : goal.remove_each-requires
remove_each-requires c =
    let within = Filling-within c.self.inside.columns.items c.self.inside.filled c.self.inside.rows c.self.invariant.filling in
    rw (c.in_ok-push_each.ensures.ok, length-grown_by (map content_of c.args.cells.now) c.self.inside.columns.items) within

pub invariant_of-self-2 : goal.invariant_of-self-2
invariant_of-self-2 c =
    let fits = rw (← c.self.view_is) at c.requires.fits in
    let room = rw (← c.self.view_is) at c.requires.room in
    let rows = length-rows_of c.self.inside.columns.items c.self.inside.rows in
    let cells = map content_of c.args.cells.now in
    let columns = c.self.inside.columns.items in
    let k = c.self.inside.filled in
    let n = c.self.inside.rows in
    let end = settled columns c.push_each.new.columns.items c.remove_each.new.columns.items k n cells c.self.invariant.filling fits c.in_ok-push_each.ensures.ok c.remove_each.ensures in
    let many = length-cut n k columns in
    let size = length-grown_by cells (cut n k columns) ∙ many in
    rw end record {
      filling = grown_by-fills cells (cut n k columns) n (cut-fills columns k n c.self.invariant.filling) (wide columns cells fits ∙ sym many);
      typed = grown_by-typed cells (cut n k columns) (cut-typed n k columns c.self.invariant.typed) (rw (cut-kinds n k columns) fits);
      within = omega arith;
    }

pub returns-clause-ok : goal.returns-clause-ok
returns-clause-ok c =
    let fits = rw (← c.self.view_is) at c.requires.fits in
    let cells = map content_of c.args.cells.now in
    let columns = c.self.inside.columns.items in
    let k = c.self.inside.filled in
    let n = c.self.inside.rows in
    let end = settled columns c.push_each.new.columns.items c.remove_each.new.columns.items k n cells c.self.invariant.filling fits c.in_ok-push_each.ensures.ok c.remove_each.ensures in
    let many = length-cut n k columns in
    let kinds = grown_by-kinds cells (cut n k columns) ∙ cut-kinds n k columns in
    let rows = grown_by-rows cells (cut n k columns) n (cut-fills columns k n c.self.invariant.filling) (wide columns cells fits ∙ sym many) in
    rw (end, kinds, rows, cut-rows n k columns, ← c.self.view_is) refl
