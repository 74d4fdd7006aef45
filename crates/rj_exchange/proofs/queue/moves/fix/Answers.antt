use Rattle.rj_exchange.proofs.Passing.{fixes}
use Rattle.rj_exchange.proofs.queue.moves.fix.Goals as goal

pub another-requires-clause-rule : goal.another-requires-clause-rule
another-requires-clause-rule g c = fixes _ _ _ c.requires.1
