use Rattle.std.proofs.Common.{◌≡◌, map, take}
use Rattle.rj_engine.specs.Partitioned.{rows_from}
use Rattle.rj_engine.proofs.sizes.delivered_sizes.Given as goal

abbrev pub invariant-loop-ledger : goal.invariant-loop-ledger
invariant-loop-ledger l = l.sizes.items ≡ map (rows_from l.first l.count) (take l.ledger-index l.ledgers)
