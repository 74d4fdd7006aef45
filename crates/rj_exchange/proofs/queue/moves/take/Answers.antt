use Rattle.std.proofs.Common.{ap}
use Rattle.rj_exchange.proofs.Passing.{takes, learns_left}
use Rattle.rj_exchange.proofs.queue.moves.take.Goals as goal

pub pop_as-requires-clause-rule : goal.pop_as-requires-clause-rule
pop_as-requires-clause-rule g c = let t = ap (λ u. u.takes) c.requires.view in let p = ap (λ u. u.placed) c.requires.view in (takes _ _ t p, learns_left _ _ t p)
