-- The cells of a column at some rows.
use Rattle.std.proofs.Common.{◌≡◌, ◌≤◌, ◌<◌, ◌+◌, ◌-◌, ◌∙◌, ℕ, zero, suc, List, [], ◌∷◌, ◌++◌, map, length, take, drop, Some, refl, sym, ap, arith, get_or, append_assoc}
use Rattle.std.specs.Prelude.{slice_get, slice_range}
use Rattle.std.proofs.lemmas.List.{length-map, length-drop, map-append, take-map, drop-map, take_more, get_or-drop, get_or-map, append-nil}
use Rattle.std.proofs.lemmas.Option.{get_or_from_slice_get}
use Rattle.std.proofs.Math.Seq.{take-suc}
use Rattle.rj_columns.specs.Contents.{Content, content_of, nothing}
use Rattle.rj_columns.specs.declared.cell.Cell.{Cell}
use Rattle.rj_columns.specs.Tables.{cell_in, column_in, part_of}

-- no cells, and one more
pub cells-start : {A : Type 0} (f : A → Content) (values : List A) (from : ℕ) (base : List Content) → base ≡ base ++ map f (slice_range values from from)
cells-start f values from base = let none : from - from ≡ 0 = omega arith in rw none (sym (append-nil base))

range-more : {A : Type 0} (values : List A) (from row : ℕ) (x : A) → from ≤ row → row < length values → slice_get values row ≡ Some x → slice_range values from (row + 1) ≡ slice_range values from row ++ x ∷ []
range-more values from row x low inside e =
    let step : row + 1 - from ≡ row - from + 1 = omega arith in
    let size = length-drop from values in
    let more = take_more (drop from values) (row - from) x (omega arith) in
    let place : from + (row - from) ≡ row = omega arith in
    let at : get_or (drop from values) (row - from) x ≡ x =
    get_or-drop from values (row - from) x ∙ (ap (λ k. get_or values k x) place ∙ get_or_from_slice_get values row x x e) in
    rw step (more ∙ ap (λ y. take (row - from) (drop from values) ++ y ∷ []) at)

pub cells-more : {A : Type 0} (f : A → Content) (values : List A) (from row : ℕ) (x : A) (cells : List Cell) (new : Cell) (base : List Content) → from ≤ row → row < length values → slice_get values row ≡ Some x
    → map content_of cells ≡ base ++ map f (slice_range values from row) → content_of new ≡ f x → map content_of (cells ++ new ∷ []) ≡ base ++ map f (slice_range values from (row + 1))
cells-more f values from row x cells new base low inside at before made =
    let more = range-more values from row x low inside at in
    let put : map content_of (cells ++ new ∷ []) ≡ map content_of cells ++ content_of new ∷ [] = map-append content_of cells (new ∷ []) in
    let last : map f (slice_range values from (row + 1)) ≡ map f (slice_range values from row) ++ f x ∷ [] = ap (map f) more ∙ map-append f (slice_range values from row) (x ∷ []) in
    put
    ∙ (ap (λ t. t ++ content_of new ∷ []) before
    ∙ (ap (λ y. (base ++ map f (slice_range values from row)) ++ y ∷ []) made
    ∙ (append_assoc base (map f (slice_range values from row)) (f x ∷ []) ∙ ap (λ t. base ++ t) (sym last))))

-- a part of a column
pub part-range : (rows : List (List Content)) (col from n : ℕ) → from + n ≤ length rows → part_of rows col from n ≡ take n (drop from (column_in rows col))
unfolding part_of
part-range rows col from zero h = refl
part-range rows col from (suc n) h =
    let column = column_in rows col in
    let size : length (column_in rows col) ≡ length rows = length-map rows (λ r. get_or r col nothing) in
    let rest = length-drop from (column_in rows col) in
    let next = take-suc (drop from (column_in rows col)) n nothing (omega arith) in
    let at : get_or (drop from (column_in rows col)) n nothing ≡ cell_in rows (from + n) col =
    get_or-drop from (column_in rows col) n nothing ∙ get_or-map (λ r. get_or r col nothing) rows (from + n) [] nothing (omega arith) in
    rw (next, at, part-range rows col from n (omega arith)) refl

-- the cells of a column whose contents are made of values
pub as-cells : {A : Type 0} (column : List Content) (f : A → Content) (values : List A) (from to : ℕ) (old new : List Content) → column ≡ map f values → new ≡ old ++ map f (slice_range values from to)
    → new ≡ old ++ slice_range column from to
as-cells column f values from to old new e made =
    made ∙ ap (λ t. old ++ t) (rw (e, drop-map, take-map) refl)

pub as-part : (rows : List (List Content)) (col from to : ℕ) (column old new : List Content) → column ≡ column_in rows col → from ≤ to → to ≤ length rows → new ≡ old ++ slice_range column from to
    → new ≡ old ++ part_of rows col from (to - from)
as-part rows col from to column old new e low high made =
    made ∙ ap (λ t. old ++ t) (ap (λ l. slice_range l from to) e ∙ sym (part-range rows col from (to - from) (omega arith)))
