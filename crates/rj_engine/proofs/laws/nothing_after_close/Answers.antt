use Rattle.std.proofs.Common.{◌+◌, get_or}
use Rattle.rj_workers.proofs.Closed.{closed_once_delivered}
use Rattle.rj_engine.specs.Stripes.{due_of}
use Rattle.rj_engine.proofs.laws.nothing_after_close.Goals as goal

pub returns : goal.returns
returns c = λ d ledgers all p other lt. closed_once_delivered (due_of d) (d.stripes + d.stripes) p (get_or ledgers p other) (all p other lt)
