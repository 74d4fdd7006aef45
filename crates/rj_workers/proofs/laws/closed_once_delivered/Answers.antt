use Rattle.rj_workers.proofs.Closed.{closed_once_delivered}
use Rattle.rj_workers.proofs.laws.closed_once_delivered.Goals as goal

pub returns : goal.returns
returns c = closed_once_delivered
