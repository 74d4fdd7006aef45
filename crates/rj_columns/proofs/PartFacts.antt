-- The cells of a column of a table, part by part.
use Rattle.std.proofs.Common.{◌≡◌, ◌≤◌, ◌<◌, ◌+◌, ◌-◌, ◌∙◌, ℕ, zero, suc, List, [], ◌∷◌, ◌++◌, length, refl, sym, ap, arith, get_or, append_assoc, append-nil}
use Rattle.std.specs.Prelude.{slice_range}
use Rattle.rj_columns.specs.Contents.{Content, nothing}
use Rattle.rj_columns.specs.Tables.{TableValue, cell_in, cell_of, column_in, part_of}
use Rattle.rj_columns.specs.Internal.Segments.{IsPartOf}
use Rattle.rj_columns.proofs.CellFacts.{as-part}
use Rattle.rj_columns.proofs.HashFacts.{column-cell}
use Rattle.rj_columns.proofs.SegmentFacts.{part-cell}

-- a cell of the column of a part
pub part-column : (t part : TableValue) (first row col : ℕ) (cells : List Content) → IsPartOf t first part → cells ≡ column_in part.rows col → first ≤ row → row < first + length part.rows
    → get_or cells (row - first) nothing ≡ cell_of t row col
part-column t part first row col cells p e low high = column-cell part col cells (row - first) e (omega arith) ∙ part-cell t part first row col p low high

-- the cells of a part of a table
pub part-same : (t part : TableValue) (first col from n : ℕ) → IsPartOf t first part → from + n ≤ length part.rows → part_of part.rows col from n ≡ part_of t.rows col (first + from) n
unfolding part_of
part-same t part first col from zero p h = refl
part-same t part first col from (suc n) p h =
    let place : first + (from + n) ≡ first + from + n = omega arith in
    let row = sym (p.rows (from + n) (omega arith)) ∙ ap (λ k. get_or t.rows k []) place in
    rw (part-same t part first col from n p (omega arith)) (ap (λ r. part_of t.rows col (first + from) n ++ get_or r col nothing ∷ []) row)

pub part-none : (rows : List (List Content)) (col from : ℕ) (cells : List Content) → cells ≡ cells ++ part_of rows col from (from - from)
unfolding part_of
part-none rows col from cells = let none : from - from ≡ 0 = omega arith in rw none (sym (append-nil cells))

-- and then the cells behind them
pub part-join : (rows : List (List Content)) (col from m n : ℕ) → part_of rows col from (m + n) ≡ part_of rows col from m ++ part_of rows col (from + m) n
unfolding part_of
part-join rows col from m zero = let none : m + 0 ≡ m = omega arith in rw none (sym (append-nil (part_of rows col from m)))
part-join rows col from m (suc n) =
    let step : m + suc n ≡ suc (m + n) = omega arith in
    let place : from + (m + n) ≡ from + m + n = omega arith in
    rw (step, place, part-join rows col from m n) (append_assoc (part_of rows col from m) (part_of rows col (from + m) n) (cell_in rows (from + m + n) col ∷ []))

-- the cells up to a row, and those of a segment from there on
pub part-next : (t part : TableValue) (first col from at to : ℕ) (column start old new : List Content) → IsPartOf t first part → column ≡ column_in part.rows col
    → from ≤ at → first ≤ at → at ≤ to → to ≤ first + length part.rows
    → old ≡ start ++ part_of t.rows col from (at - from) → new ≡ old ++ slice_range column (at - first) (to - first) → new ≡ start ++ part_of t.rows col from (to - from)
part-next t part first col from at to column start old new p e low begun high inside before made =
    let many : to - first - (at - first) ≡ to - at = omega arith in
    let more = as-part part.rows col (at - first) (to - first) column old new e (omega arith) (omega arith) made in
    let back : first + (at - first) ≡ at = omega arith in
    let own = part-same t part first col (at - first) (to - at) p (omega arith) in
    let all : at - from + (to - at) ≡ to - from = omega arith in
    let place : from + (at - from) ≡ at = omega arith in
    let join = part-join t.rows col from (at - from) (to - at) in
    more
    ∙ (ap (λ n. old ++ part_of part.rows col (at - first) n) many
    ∙ (ap (λ l. old ++ l) (own ∙ ap (λ k. part_of t.rows col k (to - at)) back)
    ∙ (ap (λ l. l ++ part_of t.rows col at (to - at)) before
    ∙ (append_assoc start (part_of t.rows col from (at - from)) (part_of t.rows col at (to - at))
    ∙ ap (λ l. start ++ l) (ap (λ k. part_of t.rows col from (at - from) ++ part_of t.rows col k (to - at)) (sym place) ∙ (sym join ∙ ap (λ n. part_of t.rows col from n) all))))))
