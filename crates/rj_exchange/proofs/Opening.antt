-- What stands while an exchange is made, and that it grows by a queue.
use Rattle.std.proofs.Common.{◌≡◌, ℕ, ◌+◌, ◌*◌, ◌<◌, ◌≤◌, List, [], ◌∷◌, ◌++◌, map, length, get_or, sym, ap, ◌∙◌, subst, arith, length-append, lt_of_not-le, mul-le-mul_right}
use mathlib.Core.Logic.{dite}
use native.Mathlib.Decide.{ℕ_discrete, dec_le}
use Rattle.rj_exchange.specs.declared.boxes.Stub.{Stub}
use Rattle.rj_exchange.specs.declared.queue.Trace.{Trace}
use Rattle.rj_exchange.specs.declared.boxes.Outbox.{Outbox}
use Rattle.rj_exchange.specs.declared.boxes.Inbox.{Inbox}
use Rattle.rj_exchange.specs.Boxes.{Queue, heard_of}
use Rattle.rj_exchange.specs.Internal.Opening.{place_of, IsFreshStub, IsFreshEnd, AddsStub}
use Rattle.rj_exchange.proofs.Of.{past_end, before_end, at_end}
use Rattle.rj_exchange.proofs.Stubs.{get_or-map, length-map', pick}

pub record AreBoxes (lanes outboxes : ℕ) (queues : List Queue) (boxes : List Outbox) : Type 0 where
  pub many : length boxes ≡ outboxes
  pub number : (i : ℕ) (b : Outbox) → i < outboxes → (get_or boxes i b).number ≡ i
  pub wide : (i : ℕ) (b : Outbox) → i < outboxes → length (get_or boxes i b).stubs.items ≡ length queues
  pub stubs : (i p k : ℕ) (b : Outbox) (l : Queue) (s : Stub) → i < outboxes → k < lanes → p * lanes + k < length queues
      → IsFreshStub (place_of p k lanes outboxes) i (get_or queues (p * lanes + k) l)
      (get_or (get_or boxes i b).stubs.items (p * lanes + k) s)

pub record AreFreshEnds (lanes outboxes p m : ℕ) (queues : List Queue) (ends : List Stub) : Type 0 where
  pub many : length ends ≡ m
  pub row : (k : ℕ) (l : Queue) (s : Stub) → k < m
      → IsFreshEnd (place_of p k lanes outboxes) outboxes (get_or queues (p * lanes + k) l) (get_or ends k s)

pub record AreInboxes (lanes outboxes n : ℕ) (queues : List Queue) (inboxes : List Inbox) : Type 0 where
  pub many : length inboxes ≡ n
  pub partition : (p : ℕ) (x : Inbox) → p < n → (get_or inboxes p x).partition ≡ p
  pub ends : (p : ℕ) (x : Inbox) → p < n → AreFreshEnds lanes outboxes p lanes queues (get_or inboxes p x).ends.items

-- a place has one row and one column
row_of : (l p k q m : ℕ) → k < l → m < l → p * l + k ≡ q * l + m → p ≤ q
row_of l p k q m a b e = dite (dec_le p q) (λ le. le) (λ ne. let lt : q < p = lt_of_not-le ne in let f : (q + 1) * l ≤ p * l = mul-le-mul_right l (omega arith) in absurd (omega arith))

same_row : (l p k q m : ℕ) → k < l → m < l → p * l + k ≡ q * l + m → p ≡ q
same_row l p k q m a b e = let x = row_of l p k q m a b e in let y = row_of l q m p k b a (sym e) in omega arith

same_column : (l p k q m : ℕ) → k < l → m < l → p * l + k ≡ q * l + m → k ≡ m
same_column l p k q m a b e = let r = same_row l p k q m a b e in let f = ap (λ (n : ℕ). n * l) r in omega arith

pub grows : (lanes outboxes : ℕ) (queues : List Queue) (queue : Queue) (old new : List Outbox) (p k : ℕ) → AreBoxes lanes outboxes queues old → k < lanes → length queues ≡ p * lanes + k → length new ≡ outboxes
    → ((i : ℕ) (b d : Outbox) → i < outboxes → AddsStub (place_of p k lanes outboxes) i queue (get_or old i b) (get_or new i d)) → AreBoxes lanes outboxes (queues ++ queue ∷ []) new
grows lanes outboxes queues queue old new p k h lt here many adds = record {
  many = many;
  number = λ i b below. (adds i b b below).0 ∙ h.number i b below;
  wide = λ i b below. (let a = ap length (adds i b b below).1.1 in let w = h.wide i b below in let x = length-append (get_or old i b).stubs.items ((adds i b b below).1.0 ∷ []) in let y = length-append queues (queue ∷ []) in omega arith);
  stubs = λ i q m b l s below m_lt inside. let j : ℕ = q * lanes + m in let add = (adds i b b below).1 in let w = h.wide i b below in let y = length-append queues (queue ∷ []) in dite (ℕ_discrete j (length queues))
      (λ is. let r = same_row lanes q m p k m_lt lt (is ∙ here) in let c = same_column lanes q m p k m_lt lt (is ∙ here) in
      let a = at_end queues queue l j is in let t = ap (λ z. get_or z j s) add.1 ∙ at_end (get_or old i b).stubs.items add.0 s j (is ∙ sym w) in
      subst (λ (z : ℕ × ℕ × Queue × Stub). IsFreshStub (place_of z.0 z.1 lanes outboxes) i z.2 z.3) (λ n. (sym r n, sym c n, sym a n, sym t n)) add.2)
      (λ ne. let lt' : j < length queues = omega arith in let a = before_end queues (queue ∷ []) j l lt' in let t = ap (λ z. get_or z j s) add.1 ∙ before_end (get_or old i b).stubs.items (add.0 ∷ []) j s (omega arith) in
      subst (λ (z : Queue × Stub). IsFreshStub (place_of q m lanes outboxes) i z.0 z.1) (λ n. (sym a n, sym t n)) (h.stubs i q m b l s below m_lt lt'));
}

pub ends_stay : (lanes outboxes p m : ℕ) (queues : List Queue) (queue : Queue) (ends : List Stub) → AreFreshEnds lanes outboxes p m queues ends → p * lanes + m ≤ length queues → AreFreshEnds lanes outboxes p m (queues ++ queue ∷ []) ends
ends_stay lanes outboxes p m queues queue ends h le = record {
  many = h.many;
  row = λ k l s lt. subst (λ (z : Queue). IsFreshEnd (place_of p k lanes outboxes) outboxes z (get_or ends k s)) (sym (before_end queues (queue ∷ []) (p * lanes + k) l (omega arith))) (h.row k l s lt);
}

pub ends_grow : (lanes outboxes p m : ℕ) (queues : List Queue) (queue : Queue) (ends : List Stub) (end : Stub) → AreFreshEnds lanes outboxes p m queues ends → length queues ≡ p * lanes + m
    → IsFreshEnd (place_of p m lanes outboxes) outboxes queue end
    → AreFreshEnds lanes outboxes p (m + 1) (queues ++ queue ∷ []) (ends ++ end ∷ [])
ends_grow lanes outboxes p m queues queue ends end h here fresh = let stay = ends_stay lanes outboxes p m queues queue ends h (omega arith) in let many = h.many in record {
  many = (let l = length-append ends (end ∷ []) in omega arith);
  row = λ k l s lt. dite (ℕ_discrete k m)
      (λ is. let a = at_end queues queue l (p * lanes + k) (ap (λ (n : ℕ). p * lanes + n) is ∙ sym here) in let t = at_end ends end s k (is ∙ sym many) in
      subst (λ (z : ℕ × Queue × Stub). IsFreshEnd (place_of p z.0 lanes outboxes) outboxes z.1 z.2) (λ n. (sym is n, sym a n, sym t n)) fresh)
      (λ ne. subst (λ (z : Stub). IsFreshEnd (place_of p k lanes outboxes) outboxes (get_or (queues ++ queue ∷ []) (p * lanes + k) l) z) (sym (before_end ends (end ∷ []) k s (omega arith))) (stay.row k l s (omega arith)));
}

pub inboxes_stay : (lanes outboxes n : ℕ) (queues : List Queue) (queue : Queue) (is : List Inbox) → AreInboxes lanes outboxes n queues is → n * lanes ≤ length queues → AreInboxes lanes outboxes n (queues ++ queue ∷ []) is
inboxes_stay lanes outboxes n queues queue is h le = record {
  many = h.many;
  partition = h.partition;
  ends = λ p x lt. ends_stay lanes outboxes p lanes queues queue (get_or is p x).ends.items (h.ends p x lt) (let f : (p + 1) * lanes ≤ n * lanes = mul-le-mul_right lanes (omega arith) in omega arith);
}

pub inboxes_grow : (lanes outboxes n : ℕ) (queues : List Queue) (is : List Inbox) (new : Inbox) → AreInboxes lanes outboxes n queues is → new.partition ≡ n
    → AreFreshEnds lanes outboxes n lanes queues new.ends.items → AreInboxes lanes outboxes (n + 1) queues (is ++ new ∷ [])
inboxes_grow lanes outboxes n queues is new h named fresh = let many = h.many in record {
  many = (let l = length-append is (new ∷ []) in omega arith);
  partition = λ p x lt. dite (ℕ_discrete p n) (λ e. ap (λ (z : Inbox). z.partition) (at_end is new x p (e ∙ sym many)) ∙ named ∙ sym e)
      (λ ne. ap (λ (z : Inbox). z.partition) (before_end is (new ∷ []) p x (omega arith)) ∙ h.partition p x (omega arith));
  ends = λ p x lt. dite (ℕ_discrete p n)
      (λ e. subst (λ (z : ℕ × Inbox). AreFreshEnds lanes outboxes z.0 lanes queues z.1.ends.items) (λ i. (sym e i, sym (at_end is new x p (e ∙ sym many)) i)) fresh)
      (λ ne. subst (λ (z : Inbox). AreFreshEnds lanes outboxes p lanes queues z.ends.items) (sym (before_end is (new ∷ []) p x (omega arith))) (h.ends p x (omega arith)));
}

-- an inbox whose tokens are fresh has heard of no outbox's end
pub fresh_untold : (lanes outboxes p : ℕ) (queues : List Queue) (ends : List Stub) → AreFreshEnds lanes outboxes p lanes queues ends → 0 < length queues → (k : ℕ) → get_or (map heard_of ends) k [] ≡ []
fresh_untold lanes outboxes p queues ends h some k = dite (dec_le (length ends) k)
    (λ le. past_end (map heard_of ends) k [] (let n = length-map' heard_of ends in omega arith))
    (λ ne. let lt : k < length ends = lt_of_not-le ne in let s : Stub = pick ends k lt in let l : Queue = pick queues 0 some in
    get_or-map heard_of ends k s [] lt ∙ ap (λ (v : Trace). v.known) (h.row k l s (let m = h.many in omega arith)).1)
