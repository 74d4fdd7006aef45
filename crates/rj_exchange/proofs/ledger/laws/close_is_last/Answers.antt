use Rattle.std.proofs.Common.{[]}
use Rattle.rj_exchange.specs.Ledgers.{opened}
use Rattle.rj_exchange.proofs.LedgerFacts.{keeps_opened}
use Rattle.rj_exchange.proofs.CloseFacts.{close_last_all, none_closed}
use Rattle.rj_exchange.proofs.ledger.laws.close_is_last.Goals as goal

pub returns : goal.returns
returns c = λ q n block xs. close_last_all xs [] (opened q n block) (keeps_opened q n block) none_closed
