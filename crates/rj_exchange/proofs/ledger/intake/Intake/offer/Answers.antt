use Rattle.std.proofs.Common.{◌+◌, ◌∙◌, sym, subst, ap}
use Rattle.rj_exchange.specs.Standing.{Standing, Orderly}
use Rattle.rj_exchange.proofs.Soundness.{alone_if_next}
use Rattle.rj_exchange.proofs.ledger.intake.Intake.offer.Goals as goal

pub accept-requires-clause-alone : goal.accept-requires-clause-alone
accept-requires-clause-alone c =
    alone_if_next c.args.block c.args.self.now c.args.number c.args.body (sym c.refusal.ensures ∙ c.in_default.is) (c.if-number-self.true ∙ ap (λ (s : Standing). s.next) c.self.view_is)
    (subst (λ (s : Standing). Orderly (s.next + 1) s.held) c.self.view_is c.self.invariant.orderly)
