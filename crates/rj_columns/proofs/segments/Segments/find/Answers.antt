use Rattle.std.proofs.Common.{◌<◌, suc, arith}
use Rattle.rj_columns.specs.Internal.Placed.{rows_before}
use Rattle.rj_columns.proofs.PlacedFacts.{end-of, found}
use Rattle.rj_columns.proofs.segments.Segments.find.Goals as goal

pub returns : goal.returns
returns c =
    let inside = c.loop-at.invariant.0 in
    let end = end-of c.self.inside.placed.items c.self.inside.hints.items c.self.inside.rows c.loop-at.at c.index.result.now c.self.invariant inside c.index.ensures in
    let high : c.args.row < rows_before c.self.inside.placed.items (suc c.loop-at.at) = omega (arith, c.loop-at-test.false, end) in
    rw (← c.self.view_is)
    (found c.self.inside.placed.items c.self.inside.hints.items c.self.inside.rows c.args.row c.loop-at.at c.index-2.result.now c.self.invariant inside c.loop-at.invariant.1 high c.index-2.ensures)
