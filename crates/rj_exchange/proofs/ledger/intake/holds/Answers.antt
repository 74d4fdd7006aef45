use Rattle.std.proofs.Common.{◌∙◌}
use Rattle.rj_exchange.proofs.HeldFacts.{holds_looks_up}
use Rattle.rj_exchange.proofs.ledger.intake.holds.Goals as goal

pub returns : goal.returns
returns c = c.contains_key.ensures ∙ holds_looks_up c.args.number c.args.held.now.entries
