use Rattle.std.proofs.Common.{ap}
use Rattle.rj_exchange.proofs.Passing.{deals}
use Rattle.rj_exchange.proofs.queue.moves.deal.Goals as goal

pub another-requires-clause-rule : goal.another-requires-clause-rule
another-requires-clause-rule c = deals _ _ (ap (λ u. u.takes) c.requires.view) (ap (λ u. u.placed) c.requires.view)
