use Rattle.std.proofs.Common.{arith, map}
use Rattle.rj_columns.specs.Contents.{content_of}
use Rattle.rj_engine.specs.Cells.{IsRightRow}
use Rattle.rj_engine.specs.Join.{JoinedValue}
use Rattle.rj_engine.proofs.Sections.{of_pairs, of_rights, right_rows}
use Rattle.rj_engine.proofs.cells.add_right.Goals as goal

pub add_side-requires-clause-rows : goal.add_side-requires-clause-rows
add_side-requires-clause-rows c = λ i d lt. let low = of_pairs (IsRightRow c.args.right.now) _ c.requires.rows i d lt in omega (arith, low)

pub add_rows-requires-clause-rows : goal.add_rows-requires-clause-rows
add_rows-requires-clause-rows c = λ i d lt. let low = of_rights (IsRightRow c.args.right.now) _ c.requires.rows i d lt in omega (arith, low)

pub returns : goal.returns
returns c =
    let m = c.args.members in
    let v : JoinedValue = record { pairs = m.pairs.now; lone_left = m.lone_left.now; lone_right = m.lone_right.now } in
    rw (c.in_ok-add_rows.ensures, c.in_ok-add_nulls.ensures, c.in_ok-add_side.ensures) (right_rows c.args.right.now c.args.col v (map content_of c.args.cells.now.items))
