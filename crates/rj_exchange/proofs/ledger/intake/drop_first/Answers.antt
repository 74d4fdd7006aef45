use Rattle.rj_exchange.proofs.HeldFacts.{popped}
use Rattle.rj_exchange.proofs.ledger.intake.drop_first.Goals as goal

pub loop-taken-preserved : goal.loop-taken-preserved
loop-taken-preserved c =
    popped c.pop_first-entry.result c.loop-taken.taken c.args.held.now.entries c.loop-taken.held.entries c.pop_first-entry.new.self.entries
    c.loop-taken.invariant c.pop_first-entry.ensures.removal c.pop_first-entry.ensures.unchanged c.pop_first-entry.ensures.variant
