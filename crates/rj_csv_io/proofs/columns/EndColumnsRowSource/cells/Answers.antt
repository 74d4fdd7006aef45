use Rattle.std.proofs.Common.{◌≡◌, ◌≤◌, ◌<◌, ◌+◌, ◌-◌, ◌∙◌, ◌++◌, ap, arith, length, map, subst, suc, sym}
use Rattle.std.specs.Prelude.{OnOk}
use Rattle.rj_columns.specs.Contents.{content_of}
use Rattle.rj_columns.specs.Tables.{cell_in}
use Rattle.rj_csv_io.specs.Columns.{ends_of}
use Rattle.rj_csv_io.proofs.ColumnFacts.{end-cell, end-first, end-part, length-ends, none-there}
use Rattle.rj_csv_io.proofs.columns.EndColumnsRowSource.cells.Goals as goal

pub returns-then-col-eq0 : goal.returns-then-col-eq0
returns-then-col-eq0 c =
    let v = c.args.self.now in
    let columns = v.columns.now in
    let rows = v.table.now.rows in
    let to : c.args.to ≤ length rows = omega (arith, length-ends columns rows, c.requires.rows) in
    c.add_same.ensures (ends_of columns rows) c.args.col
    (λ row low. ap (cell_in (ends_of columns rows) row) c.if-col-eq0.true ∙ end-first columns rows row (omega (arith, low, to)))

pub returns-then-column-columns : goal.returns-then-column-columns
returns-then-column-columns c =
    let v = c.args.self.now in
    let columns = v.columns.now in
    let rows = v.table.now.rows in
    let next : c.args.col ≡ suc (c.args.col - 1) = omega (arith, c.if-col-eq0.false) in
    let to : c.args.from + (c.args.to - c.args.from) ≤ length rows = omega (arith, length-ends columns rows, c.requires.order, c.requires.rows) in
    subst (λ more. OnOk c.cells.result (map content_of c.cells.new.cells.items ≡ map content_of c.args.cells.now.items ++ more))
    (sym (end-part columns rows (c.args.col - 1) c.args.col c.args.from (c.args.to - c.args.from) to next (omega (arith, next, c.requires.col)))) c.cells.ensures

pub returns : goal.returns
returns c =
    let v = c.args.self.now in
    let columns = v.columns.now in
    let rows = v.table.now.rows in
    let next : c.args.col ≡ suc (c.args.col - 1) = omega (arith, c.if-col-eq0.false) in
    let to : c.args.to ≤ length rows = omega (arith, length-ends columns rows, c.requires.rows) in
    c.add_same-2.ensures (ends_of columns rows) c.args.col (λ row low.
    let there : row < length rows = omega (arith, low, to) in
    end-cell columns rows row (c.args.col - 1) c.args.col there next (omega (arith, next, c.requires.col))
    ∙ none-there rows (length v.table.now.types) row _ c.columns.ensures.wide there (omega (arith, c.columns.ensures.count, c.if-column-columns.false)))
