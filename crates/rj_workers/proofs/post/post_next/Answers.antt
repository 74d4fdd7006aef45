use Rattle.std.proofs.Common.{◌≡◌, ◌<◌, ◌++◌, ◌∷◌, [], List, Option, Some, length, sym, ap, ◌∙◌, arith}
use Rattle.std.proofs.lemmas.List.{length-map}
use Rattle.std.proofs.lemmas.List.Elements.{Contains-push}
use Rattle.std.specs.Prelude.{Contains, option_to_list}
use Rattle.rj_exchange.specs.declared.ledger.parcel.Parcel.{Parcel}
use Rattle.rj_exchange.specs.declared.boxes.Exchange.{Exchange}
use Rattle.rj_exchange.specs.Boxes.{sent_by_queue, sent_of, queue_of}
use Rattle.rj_workers.specs.declared.post.Sending.{Sending}
use Rattle.rj_workers.specs.Posts.{Posts, to_post}
use Rattle.rj_workers.proofs.Lists.{along}
use Rattle.rj_workers.proofs.Posts.{queue_fits}
use Rattle.rj_workers.proofs.Sends.{sent_none, sent_one}
use Rattle.rj_workers.proofs.post.post_next.Goals as goal

-- a list that has a next parcel has it last
last_of : (s : Sending) (x : Parcel) → s.next ≡ Some x → to_post s ≡ s.rest.items ++ x ∷ []
last_of s x is = ap (λ (o : Option Parcel). s.rest.items ++ option_to_list o) is

pub post-requires : goal.post-requires
post-requires g c =
    let list : Sending = c.args.list.now in let x : Parcel = c.in-Some.parcel in
    (c.requires.me.outbox, c.requires.parcels x (along _ _ x (sym (last_of list x (sym c.in-Some.ensures.value))) (Contains-push list.rest.items x)))

pub returns-in-Err-clause-sent : goal.returns-in-Err-clause-sent
returns-in-Err-clause-sent g c =
    let list : Sending = c.args.list.now in let x : Parcel = c.in-Some.parcel in let s = c.in-Err.ensures.sent in
    let all = last_of list x (sym c.in-Some.ensures.value) ∙ ap (λ (y : Parcel). list.rest.items ++ y ∷ []) (sym s.0) in
    sent_none c.args.shared.now.exchange.now (Contains (to_post list)) _ (sent_by_queue c.args.me.now.outbox) (sent_by_queue c.post.new.self) (λ y h. along _ _ y all h) (λ y h. along _ _ y (sym all) h) s.1

pub returns-clause-sent : goal.returns-clause-sent
returns-clause-sent g c =
    let list : Sending = c.args.list.now in let x : Parcel = c.in-Some.parcel in let e : Exchange = c.args.shared.now.exchange.now in let lanes = e.limits in
    let a : Posts = sent_by_queue c.args.me.now.outbox in let b : Posts = sent_by_queue c.post.new.self in
    let all = last_of list x (sym c.in-Some.ensures.value) in
    let lt = c.requires.parcels x (along _ _ x (sym all) (Contains-push list.rest.items x)) in
    let fits : queue_of e x < length a = queue_fits e x (length a) lt (omega arith) (length-map c.args.me.now.outbox.stubs.items sent_of ∙ c.requires.me.outbox.many) in
    sent_one e x (to_post list) _ a b fits c.in_default-post.ensures.sent (all ∙ ap (λ (l : List Parcel). l ++ x ∷ []) c.pop.ensures.items)
