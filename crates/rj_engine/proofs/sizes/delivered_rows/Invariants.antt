use Rattle.std.proofs.Common.{◌≡◌, ◌-◌, ◌^◌, min}
use Rattle.rj_engine.specs.Partitioned.{rows_from}
use Rattle.rj_engine.proofs.sizes.delivered_rows.Given as goal

abbrev pub invariant-loop-at : goal.invariant-loop-at
invariant-loop-at l = l.rows ≡ min (rows_from l.first l.at l.ledger) (2 ^ 64 - 1)
