use Rattle.std.proofs.Common.{arith}
use Rattle.rj_exchange.proofs.Striping.{opens, deals}
use Rattle.rj_exchange.proofs.stripes.calls.empty.Goals as goal

pub ruled-requires-clause-rule : goal.ruled-requires-clause-rule
ruled-requires-clause-rule g c = opens

pub another-requires-clause-rule : goal.another-requires-clause-rule
another-requires-clause-rule g c = deals _ _ _ _ c.in_ok-queue.ensures.3 (let a = c.requires.some.1 in let b = c.requires.lot.1 in omega arith)
