use Rattle.std.proofs.Common.{ap, sym, ◌∙◌, arith}
use Rattle.rj_exchange.specs.declared.stripes.StripeShare.{StripeShare}
use Rattle.rj_exchange.specs.Totals.{total}
use Rattle.rj_exchange.proofs.Striping.{cuts, settles}
use Rattle.rj_exchange.proofs.stripes.Stripes.open.Goals as goal

pub another-pass-requires-clause-rule : goal.another-pass-requires-clause-rule
another-pass-requires-clause-rule g c = let i = c.loop.invariant in cuts _ _ (let t = c.loop-test.true in let p = i.parts in let d = i.dealt in omega arith)

pub another-requires-clause-rule : goal.another-requires-clause-rule
another-requires-clause-rule g c = let f = c.fill.ensures.view in settles _ _ (let e = ap (λ (u : StripeShare). u.parts) f in let k = c.in_ok-queue.ensures.2 in let q = ap (λ (u : StripeShare). u.parts) k in let r = c.requires.seats in omega arith)
    (λ h. let d = ap (λ (u : StripeShare). total h u.drawn) f in let p = ap (λ (u : StripeShare). total h u.put) f in d ∙ sym p)
