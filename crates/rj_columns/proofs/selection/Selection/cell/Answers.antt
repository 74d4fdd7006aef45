use Rattle.std.proofs.Common.{◌≡◌, ◌<◌, ℕ, List, length, map, arith}
use Rattle.std.proofs.lemmas.List.{length-map}
use Rattle.rj_columns.specs.Internal.Columns.{ColumnValue, IsTyped}
use Rattle.rj_columns.proofs.RowFacts.{typed-at}
use Rattle.rj_columns.proofs.LimitFacts.{FitsType-limits}
use Rattle.rj_columns.proofs.selection.Selection.cell.Goals as goal

inside : (columns : List ColumnValue) (col : ℕ) → col < length (map (λ c. c.cells) columns) → col < length columns
inside columns col h =
    let size : length (map (λ (c : ColumnValue). c.cells) columns) ≡ length columns = length-map columns (λ (c : ColumnValue). c.cells) in
    omega arith

pub returns-clause-limits : goal.returns-clause-limits
returns-clause-limits c =
    let at = inside c.self.inside.columns.items c.args.col (rw (← c.self.view_is) at c.requires.col) in
    let typed : IsTyped c.index.result.now = rw c.index.ensures (c.self.invariant c.args.col c.index.result.now at) in
    rw c.get.ensures (FitsType-limits c.index.result.now.kind _ (typed-at c.index.result.now.kind c.index.result.now.cells c.args.place typed))
