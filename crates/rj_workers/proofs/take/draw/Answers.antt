use Rattle.std.proofs.Common.{◌≡◌, ◌+◌, [], ℕ, sym, subst, ap, ◌∙◌}
use Rattle.std.specs.Prelude.{All}
use Rattle.std.proofs.lemmas.List.Elements.{All-push}
use Rattle.rj_exchange.specs.Ledgers.{opened}
use Rattle.rj_workers.specs.Internal.Takes.{IsOwned}
use Rattle.rj_workers.proofs.take.draw.Goals as goal

pub returns-clause-all : goal.returns-clause-all
returns-clause-all g c =
    let p : ℕ = c.in-Some.partition in let t = c.in-Some-take_place.ensures in let f = c.requires.opened.fresh p c.in-Some-take_place.inbox t.0 in let r = c.requires.opened in
    let senders : ℕ = c.args.shared.now.settings.workers + c.args.shared.now.settings.workers in let block : ℕ = c.args.shared.now.settings.block in
    let is : c.in-Some-take_place.ledger ≡ opened c.in-Some-take_place.inbox.partition senders block =
    t.1 ∙ ap (λ (q : ℕ). opened q g.B.Fresh.senders g.B.Fresh.block) (sym f.1) ∙ ap (λ (n : ℕ). opened c.in-Some-take_place.inbox.partition n g.B.Fresh.block) r.both ∙ ap (opened c.in-Some-take_place.inbox.partition senders) r.rows in
    let builds = g.J.Job.builds c.args.shared.now.job.now in
    subst (All (IsOwned builds c.args.shared.now)) (sym c.in_ok-push.ensures.items) (All-push (IsOwned builds c.args.shared.now) c.args.me.now.all.items _ c.requires.all (record { taking = (f.0, ([], f.2, is)); built = tt }))
