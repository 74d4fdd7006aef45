-- An inbox of which one token changes.
use Rattle.std.proofs.Common.{◌≡◌, ℕ, ◌<◌, ◌*◌, ◌+◌, List, [], map, length, get_or, set, sym, ap, ◌∙◌, subst, arith, length-set}
use Rattle.std.proofs.Math.Seq.{map-set_same}
use Rattle.crossbeam_queue.specs.Passes.{view}
use Rattle.rj_exchange.specs.declared.boxes.Stub.{Stub}
use Rattle.rj_exchange.specs.declared.boxes.Exchange.{Exchange}
use Rattle.rj_exchange.specs.declared.boxes.Inbox.{Inbox}
use Rattle.rj_exchange.specs.declared.queue.Where.{Where}
use Rattle.rj_exchange.specs.Passing.{taker}
use Rattle.rj_exchange.specs.Boxes.{Queue, taken_of, heard_of, taken_by_lane, heard_by_lane, where_at, IsEndOf, TakesFrom, IsInboxOf, HasHeard}
use Rattle.rj_exchange.proofs.Stubs.{kept, was}

-- the token of a lane, and its queue
pub record IsAt (x : Exchange) (o : Inbox) (lane : ℕ) (at : ℕ) (queue : Queue) (old : Stub) : Type 0 where
  pub takes : TakesFrom x o
  pub within : lane < x.lanes
  pub place : at ≡ o.partition * x.lanes + lane
  pub inside : at < length x.queues.items
  pub there : queue ≡ get_or x.queues.items at queue
  pub token : old ≡ get_or o.ends.items lane old

pub knows : (x : Exchange) (o : Inbox) (lane at : ℕ) (queue : Queue) (old : Stub) → IsAt x o lane at queue old
    → view old.pass ≡ taker (where_at x o.partition lane) x.outboxes (get_or (taken_by_lane o) lane []) (get_or (heard_by_lane o) lane [])
knows x o lane at queue old h =
    let lt : lane < length o.ends.items = (let z = h.takes.many in let y = h.within in omega arith) in
    let t = sym (was taken_of o.ends.items lane old [] lt h.token) in let k = sym (was heard_of o.ends.items lane old [] lt h.token) in
    let v = ap (λ (z : Stub). view z.pass) h.token ∙ (h.takes.tokens lane queue old h.within).1 in
    let e : view old.pass ≡ taker (where_at x o.partition lane) x.outboxes (taken_of old) (heard_of old) = v ∙ (λ i. taker (where_at x o.partition lane) x.outboxes (sym v i).taken (sym v i).known) in
    e ∙ (λ i. taker (where_at x o.partition lane) x.outboxes (t i) (k i))

pub still : (x : Exchange) (o n : Inbox) (lane at : ℕ) (queue : Queue) (old new : Stub) → IsAt x o lane at queue old → n.partition ≡ o.partition → n.ends.items ≡ set o.ends.items lane new
    → IsEndOf (view old.pass).place (view old.pass).made queue new × (heard_of new ≡ heard_of old) → TakesFrom x n × (heard_by_lane n ≡ heard_by_lane o)
still x o n lane at queue old new h p s e =
    let lt : lane < length o.ends.items = (let z = h.takes.many in let y = h.within in omega arith) in let v = knows x o lane at queue old h in
    let end : IsEndOf (where_at x o.partition lane) x.outboxes queue new = subst (λ (w : Where × ℕ). IsEndOf w.0 w.1 queue new) (λ i. ((v i).place, (v i).made)) e.0 in (
      record {
        many = ap length s ∙ length-set o.ends.items lane new ∙ h.takes.many;
        below = subst (λ (m : ℕ). m < x.partitions) (sym p) h.takes.below;
        tokens = λ k l t kl. subst (λ (z : ℕ × List Stub). IsEndOf (where_at x z.0 k) x.outboxes (get_or x.queues.items (z.0 * x.lanes + k) l) (get_or z.1 k t)) (λ i. (sym p i, sym s i))
            (kept (IsEndOf (where_at x o.partition k) x.outboxes) x.queues.items o.ends.items (o.partition * x.lanes + k) at k lane queue new h.inside lt h.there (λ is. ap (λ (m : ℕ). o.partition * x.lanes + m) is ∙ sym h.place)
            (λ is. subst (λ (m : ℕ). IsEndOf (where_at x o.partition m) x.outboxes queue new) (sym is) end)
            (λ l' t'. h.takes.tokens k l' t' kl)
            l t);
      },
      ap (map heard_of) s ∙ map-set_same heard_of o.ends.items lane new old (e.1 ∙ ap heard_of h.token),
    )

pub untold : (x : Exchange) (o n : Inbox) → IsInboxOf x o → TakesFrom x n × (heard_by_lane n ≡ heard_by_lane o) → IsInboxOf x n
untold x o n h s = record { takes = s.0; untold = λ k. ap (λ l. get_or l k []) s.1 ∙ h.untold k }

pub as_told : (x : Exchange) (o n : Inbox) → TakesFrom x n × (heard_by_lane n ≡ heard_by_lane o) → (m : ℕ) → HasHeard x m o → HasHeard x m n
as_told x o n s m h = record { takes = s.0; heard = λ k lt. ap (λ l. length (get_or l k [])) s.1 ∙ h.heard k lt }
