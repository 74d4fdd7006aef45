use Rattle.std.proofs.Common.{◌≡◌, drop}
use Rattle.rj_explain.specs.Unknown.{alike_in}
use Rattle.rj_explain.proofs.unknown.other_case.Given as goal

abbrev pub invariant-loop-column : goal.invariant-loop-column
invariant-loop-column l = alike_in (drop l.column l.table.names) l.name ≡ alike_in l.table.names l.name
