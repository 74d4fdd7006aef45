use Rattle.std.proofs.Common.{◌≡◌, ◌++◌, drop, length, map, take}
use Rattle.rj_columns.specs.Contents.{content_of}
use Rattle.rj_engine.specs.declared.joined.JoinedRow.TheVariants.{Both}
use Rattle.rj_engine.specs.Cells.{joined_cell}
use Rattle.rj_engine.specs.Shown.{counted_from}
use Rattle.rj_engine.proofs.MatchFacts.{first}
use Rattle.rj_engine.proofs.shown.add_places.Given as goal

abbrev pub invariant-loop-range : goal.invariant-loop-range
invariant-loop-range l = record {
  before : l.before ≡ length (first l.ranges l.range-index);
  cells : map content_of l.cells.items ≡ map content_of l.fn.cells.items
      ++ map (λ p. joined_cell l.tables.left.now l.tables.right.now (counted_from l.tables.first (Both p.0 p.1)) l.origin) (drop l.from (take l.to (first l.ranges l.range-index)));
}
