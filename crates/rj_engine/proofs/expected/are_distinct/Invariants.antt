use Rattle.std.proofs.Common.{map, take}
use Rattle.rj_engine.specs.Expected.{AreDistinct}
use Rattle.rj_engine.specs.Internal.Marks.{IsMarked, row_on}
use Rattle.rj_engine.proofs.expected.are_distinct.Given as goal

abbrev pub invariant-loop-place : goal.invariant-loop-place
invariant-loop-place l =
    IsMarked (map (row_on l.side) (take l.place l.pairs)) l.count l.marks.items × AreDistinct (map (row_on l.side) (take l.place l.pairs))
