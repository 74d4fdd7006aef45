use Rattle.std.proofs.Common.{◌≡◌, ◌+◌, ◌≤◌, ◌++◌, length}
use Rattle.rj_exchange.specs.Cutting.{plan, numbered, bodies}
use Rattle.rj_exchange.proofs.ledger.cutting.cut.Given as goal

abbrev pub invariant-loop-left : goal.invariant-loop-left
invariant-loop-left l = record {
  plan : l.parcels.items ++ numbered l.sender l.partition l.number (bodies l.block l.left) ≡ plan l.block l.fn.rows l.sender l.partition;
  count : l.number + length l.left ≤ length l.fn.rows;
}

abbrev pub decreases-loop-left : goal.decreases-loop-left
decreases-loop-left l = length l.left
