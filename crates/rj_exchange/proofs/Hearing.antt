-- An inbox that hears of the end of one outbox more.
use Rattle.std.proofs.Common.{◌≡◌, ℕ, suc, ◌<◌, ◌*◌, ◌+◌, List, [], ◌∷◌, ◌++◌, map, length, get_or, sym, refl, ap, ◌∙◌, subst, arith, length-append}
use Rattle.rj_exchange.specs.declared.boxes.Stub.{Stub}
use Rattle.rj_exchange.specs.declared.boxes.Exchange.{Exchange}
use Rattle.rj_exchange.specs.declared.boxes.Inbox.{Inbox}
use Rattle.rj_exchange.specs.declared.queue.Trace.{Trace}
use Rattle.rj_exchange.specs.Passing.{taker}
use Rattle.rj_exchange.specs.Boxes.{Queue, sent_of, taken_of, heard_of, taken_by_lane, heard_by_lane, where_at, IsEndOf, IsInboxOf, HasHeard}
use Rattle.rj_exchange.specs.Internal.Ends.{IsTaker, IsGrown}
use Rattle.rj_exchange.proofs.Stubs.{get_or-map, pick, row_fits, taker_self}

pub heard_of_none : (e : Exchange) (i : Inbox) → IsInboxOf e i → HasHeard e 0 i
heard_of_none e i h = record { takes = h.takes; heard = λ k lt. ap length (h.untold k) }

-- lists that show the same at each place
same_map : {A B : Type 0} (f : A → B) (xs ys : List A) → length xs ≡ length ys → ((i : ℕ) (d e : A) → i < length xs → f (get_or xs i d) ≡ f (get_or ys i e)) → map f xs ≡ map f ys
same_map f [] [] len each = refl
same_map f [] (y ∷ ys) len each = absurd (omega arith)
same_map f (x ∷ xs) [] len each = absurd (omega arith)
same_map f (x ∷ xs) (y ∷ ys) len each = (λ i. each 0 x y (omega arith) i ∷ same_map f xs ys (omega arith) (λ j d e lt. each (suc j) d e (omega arith)) i)

-- the inbox, and the stubs that it is given, lane by lane
pub record Grows (e : Exchange) (o n : Inbox) (outbox : ℕ) (ss : List Stub) : Type 0 where
  pub heard : HasHeard e outbox o
  pub partition : n.partition ≡ o.partition
  pub given : length ss ≡ e.lanes
  pub many : length n.ends.items ≡ e.lanes
  pub grown : (k : ℕ) (l : Queue) (s t u : Stub) → k < e.lanes
      → IsGrown (get_or e.queues.items (o.partition * e.lanes + k) l) (get_or o.ends.items k s) (get_or ss k t) (get_or n.ends.items k u)

pub counted : (e : Exchange) (i : Inbox) (n k : ℕ) (l : Queue) (s : Stub) → HasHeard e n i → k < e.lanes → IsTaker n (get_or e.queues.items (i.partition * e.lanes + k) l) (get_or i.ends.items k s)
counted e i n k l s h lt = let t = h.takes.tokens k l s lt in (t.0, taker_self _ _ _ _ _ t.1, ap length (sym (get_or-map heard_of i.ends.items k s [] (let m = h.takes.many in omega arith))) ∙ h.heard k lt)

module _ (e : Exchange) (o n : Inbox) (outbox : ℕ) (ss : List Stub) (h : Grows e o n outbox ss) where
  pub still_taken : taken_by_lane n ≡ taken_by_lane o
  still_taken =
      let a = h.many in let b = h.heard.takes.many in
      same_map taken_of n.ends.items o.ends.items (omega arith) (λ k u s lt.
      let l : Queue = pick e.queues.items 0 (let z = e.sized in let y = e.limits in let p = h.heard.takes.below in let m = row_fits o.partition e.partitions e.lanes 0 p y.0 in omega arith) in
      ap (λ (v : Trace). v.taken) (h.grown k l s s u (omega arith)).1)

  pub heard_more : (k : ℕ) → k < e.lanes → get_or (heard_by_lane n) k [] ≡ get_or (heard_by_lane o) k [] ++ get_or (map sent_of ss) k [] ∷ []
  heard_more k lt =
      let a = h.many in let b = h.heard.takes.many in let c = h.given in
      let in_new : k < length n.ends.items = omega arith in let in_old : k < length o.ends.items = omega arith in let in_given : k < length ss = omega arith in
      let u : Stub = pick n.ends.items k in_new in
      let l : Queue = pick e.queues.items 0 (let z = e.sized in let y = e.limits in let p = h.heard.takes.below in let m = row_fits o.partition e.partitions e.lanes 0 p y.0 in omega arith) in
      let was = sym (get_or-map heard_of o.ends.items k u [] in_old) in let more = sym (get_or-map sent_of ss k u [] in_given) in
      get_or-map heard_of n.ends.items k u [] in_new ∙ ap (λ (v : Trace). v.known) (h.grown k l u u u lt).1 ∙ (λ i. was i ++ more i ∷ [])

  pub hears_on : HasHeard e (outbox + 1) n
  hears_on = record {
    takes = record {
      many = h.many;
      below = subst (λ (m : ℕ). m < e.partitions) (sym h.partition) h.heard.takes.below;
      tokens = λ k l s lt.
          let g = h.grown k l s s s lt in let v = (h.heard.takes.tokens k l s lt).1 in
          let knows = g.1 ∙ (λ i. taker (v i).place (v i).made (sym g.1 i).taken (sym g.1 i).known) in
          subst (λ (m : ℕ). IsEndOf (where_at e m k) e.outboxes (get_or e.queues.items (m * e.lanes + k) l) (get_or n.ends.items k s)) (sym h.partition) (g.0, knows);
    };
    heard = λ k lt. ap length (heard_more k lt) ∙ length-append (get_or (heard_by_lane o) k []) _ ∙ (let was = h.heard.heard k lt in omega arith);
  }
