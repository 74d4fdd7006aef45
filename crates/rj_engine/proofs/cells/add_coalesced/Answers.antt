use Rattle.std.proofs.Common.{arith, map}
use Rattle.rj_columns.specs.Contents.{content_of}
use Rattle.rj_engine.specs.Cells.{IsMemberOf}
use Rattle.rj_engine.specs.Join.{JoinedValue}
use Rattle.rj_engine.specs.Shown.{counted_from}
use Rattle.rj_engine.proofs.Sections.{coalesced_rows, of_pairs, of_lefts, of_rights}
use Rattle.rj_engine.proofs.cells.add_coalesced.Goals as goal

pub add_coalesced_pairs-requires-clause-rows : goal.add_coalesced_pairs-requires-clause-rows
add_coalesced_pairs-requires-clause-rows c = of_pairs (λ m. IsMemberOf c.args.tables.now.left.now c.args.tables.now.right.now (counted_from c.args.tables.now.first m)) _ c.requires.rows

pub add_rows_in_scale-requires-clause-rows : goal.add_rows_in_scale-requires-clause-rows
add_rows_in_scale-requires-clause-rows c = λ i d lt. (of_lefts (λ m. IsMemberOf c.args.tables.now.left.now c.args.tables.now.right.now (counted_from c.args.tables.now.first m)) _ c.requires.rows i d lt).0

pub add_rows_in_scale-requires-2-clause-rows : goal.add_rows_in_scale-requires-2-clause-rows
add_rows_in_scale-requires-2-clause-rows c = λ i d lt.
    let there = of_rights (λ m. IsMemberOf c.args.tables.now.left.now c.args.tables.now.right.now (counted_from c.args.tables.now.first m)) _ c.requires.rows i d lt in
    omega (arith, there.1)

pub returns : goal.returns
returns c =
    let m = c.args.members in
    let v : JoinedValue = record { pairs = m.pairs.now; lone_left = m.lone_left.now; lone_right = m.lone_right.now } in
    rw (c.in_ok-add_rows_in_scale-2.ensures, c.in_ok-add_rows_in_scale.ensures, c.in_ok-add_coalesced_pairs.ensures)
    (coalesced_rows c.args.tables.now.left.now c.args.tables.now.right.now c.args.tables.now.first c.args.a c.args.b c.args.scale c.requires.scale v (map content_of c.args.cells.now.items))
