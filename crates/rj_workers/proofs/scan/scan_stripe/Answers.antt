use Rattle.std.proofs.Common.{◌+◌, ℕ, List, inl, inr}
use Rattle.rj_exchange.specs.declared.boxes.Exchange.{Exchange}
use Rattle.rj_exchange.specs.Boxes.{sent_by_queue}
use Rattle.rj_workers.specs.declared.post.Sending.{Sending}
use Rattle.rj_workers.specs.Posts.{Due, Posts}
use Rattle.rj_workers.proofs.Sends.{cut_posted}
use Rattle.rj_workers.proofs.scan.scan_stripe.Goals as goal

pub returns-in-Some-clause-added : goal.returns-in-Some-clause-added
returns-in-Some-clause-added g c = λ only q x h. elim (c.post_all.ensures.added q x h) [ inl l ↦ only q x l | inr r ↦ c.in-Ok.ensures.planned x r ]

pub returns-in-Some-clause-all : goal.returns-in-Some-clause-all
returns-in-Some-clause-all g c =
    let e : Exchange = c.args.shared.now.exchange.now in let lanes = e.limits in let due : Due = g.J.Job.due c.args.shared.now.job.now in
    let block : ℕ = c.args.shared.now.settings.block in let ss : List Sending = c.in-Ok.lists.items in let ps : Posts = sent_by_queue c.post_all.new.me.outbox in (
      cut_posted due block c.args.stripe e.partitions e ss ps lanes.0 c.in-Ok.ensures.left c.in-Some.ensures.all,
      cut_posted due block (c.args.shared.now.settings.workers + c.args.stripe) e.partitions e ss ps lanes.0 c.in-Ok.ensures.right c.in-Some.ensures.all,
    )

pub returns-in-None-clause-added : goal.returns-in-None-clause-added
returns-in-None-clause-added g c = λ only q x h. elim (c.post_all.ensures.added q x h) [ inl l ↦ only q x l | inr r ↦ c.in-Ok.ensures.planned x r ]
