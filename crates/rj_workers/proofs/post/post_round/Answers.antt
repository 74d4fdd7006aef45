use Rattle.std.proofs.Common.{◌<◌, ℕ, List, length, length-set, set, ◌∙◌, arith}
use Rattle.rj_exchange.specs.declared.boxes.Exchange.{Exchange}
use Rattle.rj_exchange.specs.Boxes.{sent_by_queue}
use Rattle.rj_workers.specs.declared.post.Sending.{Sending}
use Rattle.rj_workers.specs.Posts.{Posts, IsLeft}
use Rattle.rj_workers.proofs.Sends.{left_at, sent_at, sent_more}
use Rattle.rj_workers.proofs.post.post_round.Goals as goal

pub post_some-requires-clause-parcels : goal.post_some-requires-clause-parcels
post_some-requires-clause-parcels g c =
    let v = c.loop-at.invariant in let test = c.loop-at-test.true in let end = c.len-at-end.ensures in let many = v.many in
    let ss : List Sending = c.loop-at.lists.items in let lt : c.loop-at.at < length ss = omega arith in
    λ y h. c.requires.parcels y (v.sent.within y (left_at ss c.loop-at.at c.index_mut.result.now lt c.index_mut.ensures.value y h))

pub loop-at-preserved : goal.loop-at-preserved
loop-at-preserved g c =
    let v = c.loop-at.invariant in let test = c.loop-at-test.true in let end = c.len-at-end.ensures in let many = v.many in
    let e : Exchange = c.args.shared.now.exchange.now in let at : ℕ = c.loop-at.at in
    let ss : List Sending = c.loop-at.lists.items in let lt : at < length ss = omega arith in
    let x : Sending = c.index_mut.result.now in let s : Sending = c.post_some.new.list in let o = c.post_some.ensures in
    let a : Posts = sent_by_queue c.args.me.now.outbox in let b : Posts = sent_by_queue c.loop-at.me.outbox in let d : Posts = sent_by_queue c.post_some.new.me.outbox in record {
      me = o.me.0;
      same = (o.me.1.0 ∙ v.same.0, o.me.1.1 ∙ v.same.1);
      many = length-set ss at s ∙ many;
      sent = sent_more e (IsLeft c.args.lists.now.items) (IsLeft ss) (IsLeft (set ss at s)) a b d v.sent (sent_at e ss at x s b d lt c.index_mut.ensures.value o.sent);
    }
