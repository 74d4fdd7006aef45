use Rattle.std.proofs.Common.{◌<◌, ap, arith}
use Rattle.crossbeam_queue.specs.Passes.{view}
use Rattle.rj_exchange.specs.declared.stripes.StripeShare.{StripeShare}
use Rattle.rj_exchange.proofs.Striping.{takes, accounts, holds_last, gains_one}
use Rattle.rj_exchange.proofs.stripes.Stripes.draw.Goals as goal

pub pop_as-requires-clause-rule : goal.pop_as-requires-clause-rule
pop_as-requires-clause-rule g c = let part : 0 < (view c.args.seat.now.pass).parts = (let one = ap (λ (u : StripeShare). u.parts) c.requires.1 in omega arith) in (takes _ _ part, accounts _ _ part)

pub returns-clause-holds : goal.returns-clause-holds
returns-clause-holds g c = holds_last _ _ _ (ap (λ (u : StripeShare). u.held) c.in_ok-stripe.ensures.rule.0)

pub returns-clause-gains : goal.returns-clause-gains
returns-clause-gains g c = λ y. gains_one _ _ _ y (ap (λ (u : StripeShare). u.held) c.in_ok-stripe.ensures.rule.0)
