use Rattle.std.proofs.Common.{◌≡◌, drop}
use Rattle.std.specs.List.{list_any}
use Rattle.rj_condition.specs.Names.{matches}
use Rattle.rj_explain.proofs.clause.has_column.Given as goal

abbrev pub invariant-loop-column : goal.invariant-loop-column
invariant-loop-column l = list_any (matches l.name) (drop l.column l.table.names) ≡ list_any (matches l.name) l.table.names
