use Rattle.std.proofs.Common.{◌≡◌, ◌<◌, ℕ, List, length, arith, map, get_or}
use Rattle.std.proofs.lemmas.List.{length-map, get_or-map}
use Rattle.rj_columns.specs.Contents.{Content, nothing}
use Rattle.rj_columns.specs.Internal.Columns.{ColumnValue, rows_of, row_at}
use Rattle.rj_columns.proofs.RowFacts.{length-rows_of, rows_of-at, Filling-full, row_at-typed, FitsTypes-at}
use Rattle.rj_columns.proofs.LimitFacts.{FitsAt-limits}
use Rattle.rj_columns.proofs.segment.Segment.cell.Goals as goal

-- the row and the column are inside
inside : (columns : List ColumnValue) (n row col : ℕ) → row < length (rows_of columns n) → col < length (map (λ c. c.kind) columns) → (row < n) × (col < length columns)
inside columns n row col r k =
    let rows = length-rows_of columns n in
    let kinds : length (map (λ c. c.kind) columns) ≡ length columns = length-map columns (λ c. c.kind) in
    (omega arith, omega arith)

pub get-requires : goal.get-requires
get-requires c =
    let columns = c.self.inside.columns.items in
    let r = rw (← c.self.view_is) at c.requires.row in
    let k = rw (← c.self.view_is) at c.requires.col in
    let (low, at) = inside c.self.inside.columns.items c.self.inside.rows c.args.row c.args.col r k in
    let full : length c.index.result.now.cells ≡ c.self.inside.rows = rw c.index.ensures (Filling-full c.self.inside.columns.items c.self.inside.rows c.self.invariant.filling c.args.col c.index.result.now at) in
    omega arith

-- the cell that was read
read : (columns : List ColumnValue) (row col : ℕ) (c : ColumnValue) (x : Content) → col < length columns → c ≡ get_or columns col c → x ≡ get_or c.cells row nothing
    → x ≡ get_or (row_at columns row) col nothing
read columns row col c x at found e =
    let cell = get_or-map (λ (v : ColumnValue). get_or v.cells row nothing) columns col c nothing at in
    rw (cell, ← found) e

pub returns-clause-content : goal.returns-clause-content
returns-clause-content c =
    let r = rw (← c.self.view_is) at c.requires.row in
    let k = rw (← c.self.view_is) at c.requires.col in
    let (low, at) = inside c.self.inside.columns.items c.self.inside.rows c.args.row c.args.col r k in
    let found = rows_of-at c.self.inside.columns.items c.self.inside.rows c.args.row low in
    rw (← c.self.view_is, found) (read c.self.inside.columns.items c.args.row c.args.col c.index.result.now _ at c.index.ensures c.get.ensures)

pub returns-clause-typed : goal.returns-clause-typed
returns-clause-typed c =
    let r = rw (← c.self.view_is) at c.requires.row in
    let k = rw (← c.self.view_is) at c.requires.col in
    let (low, at) = inside c.self.inside.columns.items c.self.inside.rows c.args.row c.args.col r k in
    let fits = row_at-typed c.self.inside.columns.items c.args.row c.self.invariant.typed in
    rw (← c.self.view_is, read c.self.inside.columns.items c.args.row c.args.col c.index.result.now _ at c.index.ensures c.get.ensures)
    (FitsTypes-at (map (λ v. v.kind) c.self.inside.columns.items) _ c.args.col fits k)

pub returns-clause-limits : goal.returns-clause-limits
returns-clause-limits c = FitsAt-limits c.args.self.now.types c.args.col _ (returns-clause-typed c)
