-- A column of a table, and a table from its columns.
use Rattle.std.proofs.Common.{◌≡◌, ◌≤◌, ◌<◌, ◌∙◌, ℕ, zero, suc, List, [], ◌∷◌, ◌++◌, map, length, take, Some, refl, sym, ap, subst, arith, get_or}
use Rattle.std.specs.Prelude.{All, slice_get}
use Rattle.std.proofs.lemmas.List.{length-map, map-append, get_or-map, take_all}
use Rattle.std.proofs.Math.Seq.{take-suc}
use Rattle.rj_columns.specs.Contents.{nothing}
use Rattle.rj_columns.specs.Tables.{column_in}
use Rattle.rj_columns.specs.Internal.Columns.{ColumnValue, row_at, rows_of, Filling, IsTyped, IsColumnOf}
use Rattle.rj_columns.proofs.RowFacts.{Filling-full}

-- the kind of a column by its number
kind-at : (columns : List ColumnValue) (col : ℕ) (c : ColumnValue) → col < length columns → c ≡ get_or columns col c → slice_get (map (λ c. c.kind) columns) col ≡ Some c.kind
kind-at [] col c h e = absurd (omega arith)
kind-at (x ∷ columns) zero c h e = rw (← e) refl
kind-at (x ∷ columns) (suc col) c h e = kind-at columns col c (omega arith) e

-- the cells of a column in the rows that the columns make
cells-to : (columns : List ColumnValue) (n col m : ℕ) (c : ColumnValue) → col < length columns → c ≡ get_or columns col c → length c.cells ≡ n → m ≤ n → column_in (rows_of columns m) col ≡ take m c.cells
unfolding rows_of
cells-to columns n col zero c h e size low = refl
cells-to columns n col (suc m) c h e size low =
    let before = cells-to columns n col m c h e size (omega arith) in
    let next = take-suc c.cells m nothing (omega arith) in
    let cell : get_or (row_at columns m) col nothing ≡ get_or c.cells m nothing =
    get_or-map (λ (v : ColumnValue). get_or v.cells m nothing) columns col c nothing h ∙ ap (λ (v : ColumnValue). get_or v.cells m nothing) (sym e) in
    map-append (λ r. get_or r col nothing) (rows_of columns m) (row_at columns m ∷ []) ∙ (ap (λ t. t ++ get_or (row_at columns m) col nothing ∷ []) before ∙ (ap (λ x. take m c.cells ++ x ∷ []) cell ∙ sym next))

pub column-of : (columns : List ColumnValue) (n col : ℕ) (c : ColumnValue) → Filling columns 0 n → All IsTyped columns → col < length (map (λ c. c.kind) columns) → c ≡ get_or columns col c
    → IsColumnOf record { names = []; types = map (λ c. c.kind) columns; rows = rows_of columns n } col c
column-of columns n col c fills typed h e =
    let kinds : length (map (λ (c : ColumnValue). c.kind) columns) ≡ length columns = length-map columns (λ (c : ColumnValue). c.kind) in
    let inside : col < length columns = omega arith in
    let size : length c.cells ≡ n = subst (λ (v : ColumnValue). length v.cells ≡ n) (sym e) (Filling-full columns n fills col c inside) in (
      kind-at columns col c inside e,
      sym (cells-to columns n col n c inside e size (omega arith) ∙ take_all n c.cells (omega arith)),
      subst IsTyped (sym e) (typed col c inside),
    )
