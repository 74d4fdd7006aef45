use Rattle.std.proofs.Common.{◌∙◌}
use Rattle.std.specs.Prelude.{Contains}
use Rattle.rj_exchange.specs.Boxes.{sent_by_queue}
use Rattle.rj_workers.specs.Posts.{to_post}
use Rattle.rj_workers.proofs.Sends.{sent_more}
use Rattle.rj_workers.proofs.post.post_some.Goals as goal

pub post_next-requires-clause-parcels : goal.post_next-requires-clause-parcels
post_next-requires-clause-parcels g c = λ x h. c.requires.parcels x (c.loop.invariant.sent.within x h)

pub returns-then-not-post_next-clause-sent : goal.returns-then-not-post_next-clause-sent
returns-then-not-post_next-clause-sent g c =
    sent_more c.args.shared.now.exchange.now (Contains (to_post c.args.list.now)) (Contains (to_post c.loop.list)) (Contains (to_post c.post_next.new.list)) (sent_by_queue c.args.me.now.outbox)
    (sent_by_queue c.loop.me.outbox) (sent_by_queue c.post_next.new.me.outbox) c.loop.invariant.sent c.post_next.ensures.sent

pub loop-preserved : goal.loop-preserved
loop-preserved g c =
    let v = c.loop.invariant in let o = c.post_next.ensures in record {
      me = o.me.0;
      same = (o.me.1.0 ∙ v.same.0, o.me.1.1 ∙ v.same.1);
      sent = sent_more c.args.shared.now.exchange.now (Contains (to_post c.args.list.now)) (Contains (to_post c.loop.list)) (Contains (to_post c.post_next.new.list)) (sent_by_queue c.args.me.now.outbox)
          (sent_by_queue c.loop.me.outbox) (sent_by_queue c.post_next.new.me.outbox) v.sent o.sent;
    }
