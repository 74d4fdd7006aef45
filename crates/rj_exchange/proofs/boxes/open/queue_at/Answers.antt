use Rattle.rj_exchange.proofs.Passing.{opens}
use Rattle.rj_exchange.proofs.boxes.open.queue_at.Goals as goal

pub ruled-requires-clause-rule : goal.ruled-requires-clause-rule
ruled-requires-clause-rule g c = opens
