use Rattle.std.proofs.Common.{ℕ, ◌<◌, ◌*◌, ◌+◌, [], ◌++◌, List, length, get_or, map, sym, ap, ◌∙◌, subst, arith, All}
use Rattle.rj_exchange.specs.declared.boxes.Stub.{Stub}
use Rattle.rj_exchange.specs.declared.queue.Trace.{Trace}
use Rattle.rj_exchange.specs.declared.queue.Where.{Where}
use Rattle.rj_exchange.specs.declared.ledger.parcel.Parcel.{Parcel}
use Rattle.rj_exchange.specs.declared.posted.Posted.{Posted}
use Rattle.rj_exchange.specs.Passing.{Belongs, Interleaves}
use Rattle.rj_exchange.specs.Boxes.{Queue, taken_of, heard_of}
use Rattle.rj_exchange.specs.Internal.Ends.{IsTaker}
use Rattle.rj_exchange.proofs.Stubs.{knows_taker, all_sent, was, any_default, pick, row_fits, taker_self, get_or-map}
use Rattle.rj_exchange.proofs.boxes.Inbox.finish.Goals as goal

pub give_back_all-requires-clause-ends : goal.give_back_all-requires-clause-ends
give_back_all-requires-clause-ends g c = let r = c.requires.0 in let ends : List Stub = c.args.self.ends.items in (
  r.takes.many,
  λ k l s lt. let t = r.takes.tokens k l s lt in
      (t.0, taker_self _ _ _ _ _ t.1, ap length (sym (get_or-map heard_of ends k s [] (let m = r.takes.many in omega arith)) ∙ r.untold k)),
)

pub drain_all-requires-clause-ends : goal.drain_all-requires-clause-ends
drain_all-requires-clause-ends g c = let r = c.requires.0 in let h = c.give_back_all.ensures in let x = c.args.exchange.now in (
  h.0,
  λ k l s lt. let q : Queue = get_or x.queues.items (c.args.self.partition * x.lanes + k) l in let old : Stub = get_or c.args.self.ends.items k s in let new : Stub = get_or c.give_back_all.new.ends.items k s in
      let f = h.1 k l s s lt in let t = knows_taker x.lanes c.args.stubs.items k x.outboxes q old new f in
      let made = ap (λ (v : Trace). v.made) f.1 ∙ ap (λ (v : Trace). v.made) (r.takes.tokens k l s lt).1 in subst (λ (n : ℕ). IsTaker n q new) (sym made) t,
)

pub returns-clause-all : goal.returns-clause-all
returns-clause-all g c = let r = c.requires.0 in let h = c.give_back_all.ensures in let x = c.args.exchange.now in let d = c.drain_all.ensures.all in (
  d.0,
  λ k v lt. let many = r.takes.many in let inside : k < length c.args.self.ends.items = omega arith in let s : Stub = pick c.args.self.ends.items k inside in
      let l : Queue = pick x.queues.items 0 (let n = h.0 in let z = x.sized in let y = x.limits in let p = r.takes.below in let m = row_fits c.args.self.partition x.partitions x.lanes 0 p y.0 in omega arith) in
      let old : Stub = get_or c.args.self.ends.items k s in
      let f = (h.1 k l s s lt).1 in let before = sym (was taken_of c.args.self.ends.items k old [] inside (any_default c.args.self.ends.items k s old inside)) in
      all_sent x.lanes x.outboxes c.args.stubs.items k (get_or (map taken_of c.args.self.ends.items) k [] ++ (get_or c.drain_all.new.rest.items k v).items) c.requires.1.many
      (subst (λ (z : List (List Parcel) × List Posted). Interleaves z.0 (z.1 ++ (get_or c.drain_all.new.rest.items k v).items)) (λ i. ((f i).known, (ap (λ (u : Trace). u.taken) f ∙ before) i)) (d.1 k s v lt)),
)

pub returns-clause-placed : goal.returns-clause-placed
returns-clause-placed g c = λ k v lt.
    let r = c.requires.0 in let h = c.give_back_all.ensures in let many = r.takes.many in let inside : k < length c.args.self.ends.items = omega arith in let s : Stub = pick c.args.self.ends.items k inside in
    let x = c.args.exchange.now in
    let l : Queue = pick x.queues.items 0 (let z = x.sized in let y = x.limits in let p = r.takes.below in let m = row_fits c.args.self.partition x.partitions x.lanes 0 p y.0 in omega arith) in
    let there = ap (λ (u : Trace). u.place) (h.1 k l s s lt).1 ∙ ap (λ (u : Trace). u.place) (r.takes.tokens k l s lt).1 in
    subst (λ (w : Where). All (Belongs w) (get_or c.drain_all.new.rest.items k v).items) there (c.drain_all.ensures.placed k s v lt)
