use Rattle.std.proofs.Common.{rules}
use Rattle.std.proofs.lemmas.Result.{on_ok_weaker}
use Rattle.rj_columns.specs.Contents.{cells_of}
use Rattle.rj_columns.specs.Internal.Stores.{number_content, decimal_content, text_content}
use Rattle.rj_columns.proofs.CellFacts.{as-cells}
use Rattle.rj_columns.proofs.column.Column.cells.Goals as goal

pub returns-in-Ints : goal.returns-in-Ints
returns-in-Ints c =
    on_ok_weaker c.int_cells.result
    (as-cells c.args.self.now.cells number_content c.in-Ints.numbers c.args.from c.args.to (cells_of c.args.cells.now) (cells_of c.int_cells.new.cells) (search rules))
    c.int_cells.ensures

pub returns-in-Nums : goal.returns-in-Nums
returns-in-Nums c =
    on_ok_weaker c.decimal_cells.result
    (as-cells c.args.self.now.cells (decimal_content c.in-Nums.kind.scale) c.in-Nums.numbers c.args.from c.args.to (cells_of c.args.cells.now) (cells_of c.decimal_cells.new.cells) (search rules))
    c.decimal_cells.ensures

pub returns-in-Texts : goal.returns-in-Texts
returns-in-Texts c =
    on_ok_weaker c.text_cells.result
    (as-cells c.args.self.now.cells text_content c.in-Texts.texts c.args.from c.args.to (cells_of c.args.cells.now) (cells_of c.text_cells.new.cells) (search rules))
    c.text_cells.ensures
