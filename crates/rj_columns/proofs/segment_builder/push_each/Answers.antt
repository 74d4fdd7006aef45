use Rattle.std.proofs.Common.{rules, ◌≡◌, ◌∙◌, ◌<◌, ◌++◌, ◌∷◌, [], ℕ, List, map, take, length, refl, sym, ap, arith, add-one, slice_set, slice_index_or}
use Rattle.std.proofs.lemmas.List.{length-map, length-take-le, get_or-map, set-get_or, length-set}
use Rattle.std.proofs.Math.Seq.{take-suc}
use Rattle.rj_columns.specs.declared.cell.Cell.{Cell}
use Rattle.rj_columns.specs.declared.cell.Cell.TheVariants.{Null}
use Rattle.rj_columns.specs.Contents.{content_of, nothing}
use Rattle.rj_columns.specs.Internal.Columns.{ColumnValue, grown_by}
use Rattle.rj_columns.specs.Tables.{FitsAt, FitsTypes}
use Rattle.rj_columns.proofs.RowFacts.{FitsTypes-length, FitsTypes-at, FitsAt-type}
use Rattle.rj_columns.proofs.PushFacts.{length-grown_by, grown_by-kinds, grown_by-none, grown_by-step, without_last-grown}
use Rattle.rj_columns.proofs.segment_builder.push_each.Goals as goal

-- as many columns as cells
wide : (columns : List ColumnValue) (cells : List Cell) → FitsTypes (map (λ c. c.kind) columns) (map content_of cells) → length columns ≡ length cells
wide columns cells fits =
    let kinds : length (map (λ (c : ColumnValue). c.kind) columns) ≡ length columns = length-map columns (λ (c : ColumnValue). c.kind) in
    let contents : length (map content_of cells) ≡ length cells = length-map cells content_of in
    let same = FitsTypes-length (map (λ (c : ColumnValue). c.kind) columns) (map content_of cells) fits in
    omega arith

-- the columns at a turn are as many as at first
as_many : (columns now : List ColumnValue) (cells : List Cell) (i : ℕ) → FitsTypes (map (λ c. c.kind) columns) (map content_of cells) → now ≡ grown_by (take i (map content_of cells)) columns → length now ≡ length cells
as_many columns now cells i fits state = ap length state ∙ length-grown_by (take i (map content_of cells)) columns ∙ wide columns cells fits

pub loop-i-init : goal.loop-i-init
loop-i-init c = record { state = sym (grown_by-none c.args.columns.now.items); end = refl }

pub index_mut-requires : goal.index_mut-requires
index_mut-requires c =
    let many = as_many c.args.columns.now.items c.loop-i.columns.items c.args.cells.now c.loop-i.i c.requires c.loop-i.invariant.state in
    search rules

fits_here : (columns now : List ColumnValue) (cells : List Cell) (i : ℕ) (c : ColumnValue) → FitsTypes (map (λ c. c.kind) columns) (map content_of cells) → i < length cells
    → now ≡ grown_by (take i (map content_of cells)) columns → FitsAt (map (λ c. c.kind) now) i (content_of (slice_index_or cells i Null))
fits_here columns now cells i c fits h state =
    let many = wide columns cells fits in
    let kinds : length (map (λ (c : ColumnValue). c.kind) columns) ≡ length columns = length-map columns (λ (c : ColumnValue). c.kind) in
    let at = FitsTypes-at (map (λ (c : ColumnValue). c.kind) columns) (map content_of cells) i fits (omega arith) in
    rw (state, grown_by-kinds (take i (map content_of cells)) columns, ← get_or-map content_of cells i Null nothing h) at

pub push-requires : goal.push-requires
push-requires c =
    let at = fits_here c.args.columns.now.items c.loop-i.columns.items c.args.cells.now c.loop-i.i c.index_mut.result.now c.requires c.loop-i-test.true c.loop-i.invariant.state in
    FitsAt-type c.loop-i.columns.items c.loop-i.i (content_of (slice_index_or c.args.cells.now c.loop-i.i Null)) c.index_mut.result.now at c.index_mut.ensures.value

pub pop_each-requires : goal.pop_each-requires
pop_each-requires c =
    let many = as_many c.args.columns.now.items c.loop-i.columns.items c.args.cells.now c.loop-i.i c.requires c.loop-i.invariant.state in
    let size = length-set c.loop-i.columns.items c.loop-i.i c.push.new.self in
    let low : c.loop-i.i < length c.args.cells.now = c.loop-i-test.true in
    omega arith

-- the column that refused its cell is as it was
kept : (now : List ColumnValue) (i : ℕ) (c new : ColumnValue) → c ≡ slice_index_or now i c → new ≡ c → slice_set now i new ≡ now
kept now i c new at same = ap (slice_set now i) (same ∙ at) ∙ set-get_or now i c

pub returns-then-is_err-clause-err : goal.returns-then-is_err-clause-err
returns-then-is_err-clause-err c =
    let low : c.loop-i.i < length c.args.cells.now = c.loop-i-test.true in
    let many = wide c.args.columns.now.items c.args.cells.now c.requires in
    let contents : length (map content_of c.args.cells.now) ≡ length c.args.cells.now = length-map c.args.cells.now content_of in
    let size : length (take c.loop-i.i (map content_of c.args.cells.now)) ≡ c.loop-i.i = length-take-le c.loop-i.i (map content_of c.args.cells.now) (omega arith) in
    let same : c.push.new.self ≡ c.index_mut.result.now = search rules in
    let back = without_last-grown (take c.loop-i.i (map content_of c.args.cells.now)) c.args.columns.now.items (omega arith) in
    rw (c.pop_each.ensures, kept c.loop-i.columns.items c.loop-i.i c.index_mut.result.now c.push.new.self c.index_mut.ensures.value same, c.loop-i.invariant.state) (rw size at back)

pub loop-i-preserved : goal.loop-i-preserved
loop-i-preserved c =
    let low : c.loop-i.i < length c.args.cells.now = c.loop-i-test.true in
    let many = wide c.args.columns.now.items c.args.cells.now c.requires in
    let contents : length (map content_of c.args.cells.now) ≡ length c.args.cells.now = length-map c.args.cells.now content_of in
    let size : length (take c.loop-i.i (map content_of c.args.cells.now)) ≡ c.loop-i.i = length-take-le c.loop-i.i (map content_of c.args.cells.now) (omega arith) in
    let content = get_or-map content_of c.args.cells.now c.loop-i.i Null nothing low in
    let next = take-suc (map content_of c.args.cells.now) c.loop-i.i nothing (omega arith) in
    let made : c.push.new.self ≡ record c.index_mut.result.now { cells = c.index_mut.result.now.cells ++ content_of (slice_index_or c.args.cells.now c.loop-i.i Null) ∷ [] } = search rules in
    let step =
    grown_by-step (take c.loop-i.i (map content_of c.args.cells.now)) c.args.columns.now.items c.loop-i.columns.items
    (content_of (slice_index_or c.args.cells.now c.loop-i.i Null)) c.index_mut.result.now c.push.new.self c.loop-i.i size (omega arith) c.loop-i.invariant.state c.index_mut.ensures.value made in
    record { state = step ∙ ap (λ t. grown_by t c.args.columns.now.items) (sym (rw (add-one) (next ∙ ap (λ x. take c.loop-i.i (map content_of c.args.cells.now) ++ x ∷ []) content))); end = refl }
