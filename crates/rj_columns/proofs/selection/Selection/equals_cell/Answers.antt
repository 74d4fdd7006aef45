use Rattle.std.proofs.Common.{◌≡◌, ◌<◌, ◌∙◌, ◌-◌, [], ℕ, List, length, map, ap, sym, get_or, arith}
use Rattle.std.proofs.lemmas.List.{length-map, get_or-map}
use Rattle.rj_columns.specs.Internal.Columns.{ColumnValue}
use Rattle.rj_columns.specs.Contents.{nothing}
use Rattle.rj_columns.specs.Compare.{are_equal}
use Rattle.rj_columns.specs.Tables.{cell_of}
use Rattle.rj_columns.proofs.PartFacts.{part-column}
use Rattle.rj_columns.proofs.selection.Selection.equals_cell.Goals as goal

inside : (columns : List ColumnValue) (col : ℕ) → col < length (map (λ c. c.cells) columns) → col < length columns
inside columns col h =
    let size : length (map (λ (c : ColumnValue). c.cells) columns) ≡ length columns = length-map columns (λ (c : ColumnValue). c.cells) in
    omega arith

pub returns : goal.returns
returns c =
    let at = inside c.self.inside.columns.items c.args.col (rw (← c.self.view_is) at c.requires.col) in
    let column : c.index.result.now.cells ≡ get_or c.args.self.now c.args.col [] =
    ap (λ (v : ColumnValue). v.cells) c.index.ensures
    ∙ (sym (get_or-map (λ (v : ColumnValue). v.cells) c.self.inside.columns.items c.args.col c.index.result.now [] at) ∙ ap (λ l. get_or l c.args.col []) c.self.view_is) in
    let cell : get_or c.column.result.now.cells (c.args.row - c.find-start.result.0) nothing ≡ cell_of c.args.table.now c.args.row c.args.table_col =
    part-column c.args.table.now c.find-start.result.1.now c.find-start.result.0 c.args.row c.args.table_col c.column.result.now.cells c.find-start.ensures.part c.column.ensures.1 c.find-start.ensures.from c.find-start.ensures.to in
    c.is_equal.ensures
    ∙ (ap (λ l. are_equal (get_or l c.args.place nothing) (get_or c.column.result.now.cells (c.args.row - c.find-start.result.0) nothing)) column
    ∙ ap (are_equal (get_or (get_or c.args.self.now c.args.col []) c.args.place nothing)) cell)
