use Rattle.std.proofs.Common.{◌≡◌, List, true, inl, inr, sym, ◌∙◌, subst, rules}
use Rattle.std.specs.List.{list_all}
use Rattle.rj_exchange.specs.Boxes.{sent_by_queue}
use Rattle.rj_workers.specs.declared.post.Sending.{Sending}
use Rattle.rj_workers.specs.Posts.{IsLeft, is_sent}
use Rattle.rj_workers.proofs.Sends.{none_left, sent_more}
use Rattle.rj_workers.proofs.post.post_all.Goals as goal

pub post_round-posted-requires-clause-parcels : goal.post_round-posted-requires-clause-parcels
post_round-posted-requires-clause-parcels g c = λ x h. c.requires.parcels x (c.loop.invariant.sent.within x h)

pub returns-then-all_sent-clause-added : goal.returns-then-all_sent-clause-added
returns-then-all_sent-clause-added g c =
    (sent_more c.args.shared.now.exchange.now (IsLeft c.args.lists.items) (IsLeft c.loop.lists.items) (IsLeft c.post_round-posted.new.lists.items) (sent_by_queue c.args.me.now.outbox)
    (sent_by_queue c.loop.me.outbox) (sent_by_queue c.post_round-posted.new.me.outbox) c.loop.invariant.sent c.post_round-posted.ensures.sent).added

pub returns-then-all_sent-clause-all : goal.returns-then-all_sent-clause-all
returns-then-all_sent-clause-all g c =
    let all = sent_more c.args.shared.now.exchange.now (IsLeft c.args.lists.items) (IsLeft c.loop.lists.items) (IsLeft c.post_round-posted.new.lists.items) (sent_by_queue c.args.me.now.outbox)
    (sent_by_queue c.loop.me.outbox) (sent_by_queue c.post_round-posted.new.me.outbox) c.loop.invariant.sent c.post_round-posted.ensures.sent in
    let ended = subst (λ (l : List Sending). list_all is_sent l ≡ true) c.as_slice.ensures.value (sym c.all_sent.ensures ∙ c.if-all_sent.true) in
    λ x h. elim (all.posted x h) [ inl l ↦ absurd (none_left c.post_round-posted.new.lists.items x ended l) | inr r ↦ r ]

pub returns-then-raised-clause-added : goal.returns-then-raised-clause-added
returns-then-raised-clause-added g c =
    (sent_more c.args.shared.now.exchange.now (IsLeft c.args.lists.items) (IsLeft c.loop.lists.items) (IsLeft c.post_round-posted.new.lists.items) (sent_by_queue c.args.me.now.outbox)
    (sent_by_queue c.loop.me.outbox) (sent_by_queue c.post_round-posted.new.me.outbox) c.loop.invariant.sent c.post_round-posted.ensures.sent).added

pub loop-preserved : goal.loop-preserved
loop-preserved g c =
    let v = c.loop.invariant in let o = c.post_round-posted.ensures in record {
      me = search rules;
      same = (o.me.1.0 ∙ v.same.0, o.me.1.1 ∙ v.same.1);
      sent = sent_more c.args.shared.now.exchange.now (IsLeft c.args.lists.items) (IsLeft c.loop.lists.items) (IsLeft c.post_round-posted.new.lists.items) (sent_by_queue c.args.me.now.outbox)
          (sent_by_queue c.loop.me.outbox) (sent_by_queue c.post_round-posted.new.me.outbox) v.sent o.sent;
    }
