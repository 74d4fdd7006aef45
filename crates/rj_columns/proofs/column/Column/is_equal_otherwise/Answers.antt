use Rattle.rj_columns.proofs.RowFacts.{typed-at}
use Rattle.rj_columns.proofs.LimitFacts.{FitsType-limits}
use Rattle.rj_columns.proofs.column.Column.is_equal_otherwise.Goals as goal

pub are_equal_cells-requires-clause-left : goal.are_equal_cells-requires-clause-left
are_equal_cells-requires-clause-left c =
    rw c.get-2.ensures (FitsType-limits c.args.self.now.kind _ (typed-at c.args.self.now.kind c.args.self.now.cells c.args.i c.requires.typed))

pub are_equal_cells-requires-clause-right : goal.are_equal_cells-requires-clause-right
are_equal_cells-requires-clause-right c =
    rw c.get-3.ensures (FitsType-limits c.args.other.now.kind _ (typed-at c.args.other.now.kind c.args.other.now.cells c.args.j c.requires.other_typed))
