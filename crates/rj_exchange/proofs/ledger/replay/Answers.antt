use Rattle.std.proofs.Common.{List, subst, sym, ◌∙◌}
use Rattle.rj_exchange.specs.declared.ledger.parcel.Answer.{Answer}
use Rattle.rj_exchange.specs.Ledgers.{LedgerValue, opened, after_all}
use Rattle.rj_exchange.specs.Kept.{kept, Keeps}
use Rattle.rj_exchange.specs.Delivery.{Delivers, AreExactly}
use Rattle.rj_exchange.proofs.LedgerFacts.{keeps_replay}
use Rattle.rj_exchange.proofs.DeliveryFacts.{replay_answers, replay_delivers, replay_exact}
use Rattle.rj_exchange.proofs.ledger.replay.Goals as goal

pub returns-clause-kept : goal.returns-clause-kept
returns-clause-kept c =
    let P : LedgerValue → Type 0 = λ (v : LedgerValue). Keeps (kept c.args.parcels.items c.in_ok-answers.answers.items) v in
    let Q : List Answer → Type 0 = λ (as' : List Answer). Keeps (kept c.args.parcels.items as') (after_all (opened c.args.partition c.args.senders c.args.block) c.args.parcels.items) in
    subst P (sym c.in_ok-answers.ensures.ledger) (subst Q (sym c.in_ok-answers.ensures.answers) (keeps_replay c.args.partition c.args.senders c.args.block c.args.parcels.items))

pub returns-clause-planned : goal.returns-clause-planned
returns-clause-planned c = λ due lawful. c.in_ok-answers.ensures.answers ∙ replay_answers due c.args.block c.args.partition c.args.senders c.requires c.args.parcels.items lawful

pub returns-clause-delivers : goal.returns-clause-delivers
returns-clause-delivers c = λ due lawful.
    subst (Delivers due c.args.block c.args.partition c.args.senders c.args.parcels.items) (sym c.in_ok-answers.ensures.ledger) (replay_delivers due c.args.block c.args.partition c.args.senders c.requires c.args.parcels.items lawful)

pub returns-clause-exact : goal.returns-clause-exact
returns-clause-exact c = λ due lawful.
    let P : List Answer → Type 0 = λ (as' : List Answer). AreExactly due c.args.block c.args.partition c.args.senders c.args.parcels.items (kept c.args.parcels.items as') in
    subst P (sym c.in_ok-answers.ensures.answers) (replay_exact due c.args.block c.args.partition c.args.senders c.requires c.args.parcels.items lawful)
