use Rattle.std.proofs.Common.{ap}
use Rattle.rj_exchange.proofs.Passing.{posts, learns_held}
use Rattle.rj_exchange.proofs.queue.moves.put.Goals as goal

pub push_as-requires-clause-rule : goal.push_as-requires-clause-rule
push_as-requires-clause-rule g c = let r = c.requires.view in let s = ap (λ u. u.sends) r.0 in (posts _ _ _ _ s r.1 r.2, learns_held _ _ s)
