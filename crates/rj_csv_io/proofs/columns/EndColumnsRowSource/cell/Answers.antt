use Rattle.std.proofs.Common.{◌≡◌, ◌<◌, ◌-◌, ◌∙◌, ap, arith, length, suc, sym}
use Rattle.rj_columns.specs.Tables.{cell_in}
use Rattle.rj_csv_io.specs.Columns.{ends_of}
use Rattle.rj_csv_io.proofs.ColumnFacts.{end-cell, end-first, length-ends, none-there}
use Rattle.rj_csv_io.proofs.columns.EndColumnsRowSource.cell.Goals as goal

pub returns-then-col-eq0 : goal.returns-then-col-eq0
returns-then-col-eq0 c =
    let v = c.args.self.now in
    let columns = v.columns.now in
    let rows = v.table.now.rows in
    let low : c.args.row < length rows = omega (arith, length-ends columns rows, c.requires.row) in
    sym (ap (cell_in (ends_of columns rows) c.args.row) c.if-col-eq0.true ∙ end-first columns rows c.args.row low)

pub returns-then-column-columns : goal.returns-then-column-columns
returns-then-column-columns c =
    let v = c.args.self.now in
    let columns = v.columns.now in
    let rows = v.table.now.rows in
    let low : c.args.row < length rows = omega (arith, length-ends columns rows, c.requires.row) in
    let next : c.args.col ≡ suc (c.args.col - 1) = omega (arith, c.if-col-eq0.false) in
    c.cell.ensures.content ∙ sym (end-cell columns rows c.args.row (c.args.col - 1) c.args.col low next (omega (arith, next, c.requires.col)))

pub returns : goal.returns
returns c =
    let v = c.args.self.now in
    let columns = v.columns.now in
    let rows = v.table.now.rows in
    let low : c.args.row < length rows = omega (arith, length-ends columns rows, c.requires.row) in
    let next : c.args.col ≡ suc (c.args.col - 1) = omega (arith, c.if-col-eq0.false) in
    sym (end-cell columns rows c.args.row (c.args.col - 1) c.args.col low next (omega (arith, next, c.requires.col))
    ∙ none-there rows (length v.table.now.types) c.args.row _ c.columns.ensures.wide low (omega (arith, c.columns.ensures.count, c.if-column-columns.false)))
