use Rattle.std.proofs.Common.{map, rules}
use Rattle.rj_columns.specs.Contents.{content_of}
use Rattle.rj_engine.specs.Cells.{left_cell, IsLeftRow}
use Rattle.rj_engine.specs.Join.{JoinedValue}
use Rattle.rj_engine.specs.Shown.{counted_from}
use Rattle.rj_engine.proofs.Sections.{cells_of_rows, of_pairs, of_lefts}
use Rattle.rj_engine.proofs.cells.add_left.Goals as goal

pub add_side-requires-clause-rows : goal.add_side-requires-clause-rows
add_side-requires-clause-rows c = of_pairs (λ m. IsLeftRow c.args.tables.now.left.now (counted_from c.args.tables.now.first m)) _ c.requires.rows

pub add_rows-requires-clause-rows : goal.add_rows-requires-clause-rows
add_rows-requires-clause-rows c = of_lefts (λ m. IsLeftRow c.args.tables.now.left.now (counted_from c.args.tables.now.first m)) _ c.requires.rows

pub returns : goal.returns
returns c =
    let m = c.args.members in
    let v : JoinedValue = record { pairs = m.pairs.now; lone_left = m.lone_left.now; lone_right = m.lone_right.now } in
    rw (← cells_of_rows (λ row. left_cell c.args.tables.now.left.now (counted_from c.args.tables.now.first row) c.args.col) v (map content_of c.args.cells.now.items)) (search (rules, c.in_ok-add_nulls.ensures, c.in_ok-add_rows.ensures, c.in_ok-add_side.ensures))
