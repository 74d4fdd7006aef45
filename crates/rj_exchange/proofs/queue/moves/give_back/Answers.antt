use Rattle.std.proofs.Common.{ap}
use Rattle.rj_exchange.proofs.Passing.{returns}
use Rattle.rj_exchange.proofs.queue.moves.give_back.Goals as goal

pub absorb-requires-clause-rule : goal.absorb-requires-clause-rule
absorb-requires-clause-rule c = let r = c.requires.view in returns _ _ _ _ (ap (λ u. u.takes) r.0) (ap (λ u. u.placed) r.0) (ap (λ u. u.sends) r.1) r.2
