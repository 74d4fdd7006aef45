use Rattle.std.proofs.Common.{◌≤◌, ◌+◌}
use Rattle.std.specs.Option.{option_copied}
use Rattle.rj_explain.specs.Names.{AreFar, most_edits}
use Rattle.rj_explain.proofs.NearFacts.{IsFound}
use Rattle.rj_explain.proofs.names.nearest.Given as goal

abbrev pub invariant-loop-column : goal.invariant-loop-column
invariant-loop-column l = record {
  low : l.least ≤ most_edits l.wanted + 1;
  far : AreFar l.wanted l.table.names l.column l.least;
  found : IsFound l.wanted l.table.names l.column l.least (option_copied l.found);
}
