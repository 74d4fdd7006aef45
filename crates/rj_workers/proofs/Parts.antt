-- The stubs of one partition, from those of all outboxes.
use Rattle.std.proofs.Common.{◌≡◌, ℕ, zero, suc, ◌<◌, ◌≤◌, ◌+◌, ◌*◌, List, [], ◌∷◌, ◌++◌, length, map, get_or, drop, sym, refl, ap, ◌∙◌, subst, arith, mul-le-mul_right, length-drop, length-append}
use Rattle.std.specs.Prelude.{All}
use Rattle.std.proofs.lemmas.List.Elements.{All-push}
use Rattle.std.proofs.lemmas.List.{get_or-drop}
use Rattle.rj_exchange.specs.declared.ledger.parcel.Parcel.{Parcel}
use Rattle.rj_exchange.specs.declared.boxes.Stub.{Stub}
use Rattle.rj_exchange.specs.declared.boxes.Outbox.{Outbox}
use Rattle.rj_exchange.specs.declared.boxes.Exchange.{Exchange}
use Rattle.rj_exchange.specs.Boxes.{sent_of, where_at, IsStubOf, AreStubsOf}
use Rattle.rj_workers.proofs.Lists.{pick, row_fits, get_or-map, along}
use Rattle.rj_workers.proofs.Lists.{at_end, before_end}
use mathlib.Core.Logic.{dite}
use native.Mathlib.Decide.{ℕ_discrete}
use Rattle.rj_workers.specs.Posts.{posts_at}
use Rattle.rj_workers.specs.Arrivals.{IsAllArrived, IsPartition, AreFirstOf, AreOutboxes, stub_lists}

drop_drop : {A : Type 0} (m n k : ℕ) (xs : List A) → k ≡ m + n → drop n (drop m xs) ≡ drop k xs
drop_drop zero n k xs e = ap (λ i. drop i xs) (let z : n ≡ k = omega arith in z)
drop_drop (suc m) n zero xs e = absurd (omega arith)
drop_drop (suc m) zero (suc k) [] e = refl
drop_drop (suc m) (suc n) (suc k) [] e = refl
drop_drop (suc m) n (suc k) (x ∷ xs) e = drop_drop m n k xs (omega arith)

pub lists_at : (e : Exchange) (os : List Outbox) → AreOutboxes e os → (o : ℕ) (d : Outbox) → o < e.outboxes → get_or (stub_lists os) o [] ≡ (get_or os o d).stubs.items
lists_at e os outs o d lt = get_or-map (λ (z : Outbox). z.stubs.items) os o d [] (let n = outs.0 in omega arith)

-- each outbox leaves a stub for each queue
pub lists_long : (e : Exchange) (os : List Outbox) → AreOutboxes e os → (o : ℕ) → o < e.outboxes → length (get_or (stub_lists os) o []) ≡ e.partitions * e.lanes
lists_long e os outs o lt = let n = outs.0 in let within : o < length os = omega arith in let d : Outbox = pick os o within in ap length (lists_at e os outs o d lt) ∙ (outs.1 o d lt).0.many

module _ (e : Exchange) (os : List Outbox) (p : ℕ) (L : List (List Stub)) (ss : List Stub) (outs : AreOutboxes e os) (len : length L ≡ e.outboxes) (first : AreFirstOf e.lanes L ss)
    (left : (o : ℕ) → o < e.outboxes → get_or L o [] ≡ drop (p * e.lanes) (get_or (stub_lists os) o [])) (pl : p < e.partitions) where
  transposed : (o k : ℕ) (s : Stub) → o < e.outboxes → k < e.lanes → get_or ss (o * e.lanes + k) s ≡ get_or (get_or (stub_lists os) o []) (p * e.lanes + k) s
  transposed o k s ol kl = first.1 o k s (omega arith) kl ∙ ap (λ l. get_or l k s) (left o ol) ∙ get_or-drop (p * e.lanes) (get_or (stub_lists os) o []) k s

  many : length ss ≡ e.outboxes * e.lanes
  many = first.0 ∙ ap (λ n. n * e.lanes) len

  pub are_stubs : AreStubsOf e p ss
  are_stubs = record {
    many = many;
    stubs = λ o k l s ol kl.
        let n = outs.0 in let within : o < length os = omega arith in let d : Outbox = pick os o within in let b = outs.1 o d ol in
        let is = transposed o k s ol kl ∙ ap (λ (z : List Stub). get_or z (p * e.lanes + k) s) (lists_at e os outs o d ol) in
        subst (λ (z : ℕ × Stub). IsStubOf (where_at e p k) z.0 (get_or e.queues.items (p * e.lanes + k) l) z.1) (λ i. (b.1 i, sym is i)) (b.0.tokens p k l s pl kl);
  }

  same_posts : (o k : ℕ) → o < e.outboxes → k < e.lanes → posts_at (map sent_of ss) (o * e.lanes + k) ≡ posts_at (map sent_of (get_or (stub_lists os) o [])) (p * e.lanes + k)
  same_posts o k ol kl =
      let m = many in let r = row_fits o e.outboxes e.lanes k ol kl in let here : o * e.lanes + k < length ss = omega arith in
      let n = lists_long e os outs o ol in let q = row_fits p e.partitions e.lanes k pl kl in let there : p * e.lanes + k < length (get_or (stub_lists os) o []) = omega arith in
      let s : Stub = pick ss (o * e.lanes + k) here in
      get_or-map sent_of ss (o * e.lanes + k) s [] here ∙ ap sent_of (transposed o k s ol kl) ∙ sym (get_or-map sent_of (get_or (stub_lists os) o []) (p * e.lanes + k) s [] there)

  pub partition_of : (xs : List Parcel) → IsAllArrived e.outboxes e.lanes (map sent_of ss) xs → IsPartition e.outboxes e.lanes (stub_lists os) p xs
  partition_of xs a = (
    λ x h. let b = a.0 x h in (b.0, b.1, b.2, b.3, along _ _ x (same_posts b.0 b.1 b.2 b.3) b.4),
    λ o k x ol kl h. a.1 o k x ol kl (along _ _ x (sym (same_posts o k ol kl)) h),
  )

-- what is left of each outbox's stubs
module _ {X : Type 0} (f : X → List Stub) (e : Exchange) (os : List Outbox) (p : ℕ) (old new : List X) (outs : AreOutboxes e os) (len : length old ≡ e.outboxes)
    (left : (o : ℕ) → o < e.outboxes → get_or (map f old) o [] ≡ drop (p * e.lanes) (get_or (stub_lists os) o [])) where
  pub left_room : p < e.partitions → (o : ℕ) (d : X) → o < length old → e.lanes ≤ length (f (get_or old o d))
  left_room pl o d lt =
      let ol : o < e.outboxes = omega arith in
      let is = sym (get_or-map f old o d [] lt) ∙ left o ol in
      let n = ap length is in let m = length-drop (p * e.lanes) (get_or (stub_lists os) o []) in let k = lists_long e os outs o ol in
      let r : (p + 1) * e.lanes ≤ e.partitions * e.lanes = mul-le-mul_right e.lanes (omega arith) in let t : (p + 1) * e.lanes ≡ p * e.lanes + e.lanes = grind arith in omega arith

  pub left_more : length new ≡ length old → ((o : ℕ) (d : X) → o < length old → f (get_or new o d) ≡ drop e.lanes (f (get_or old o d))) → (q : ℕ) → q ≡ p + 1 → (o : ℕ) → o < e.outboxes
      → get_or (map f new) o [] ≡ drop (q * e.lanes) (get_or (stub_lists os) o [])
  left_more same step q is o ol =
      let lt : o < length old = omega arith in let lt' : o < length new = omega arith in let d : X = pick old o lt in
      get_or-map f new o d [] lt' ∙ step o d lt ∙ ap (drop e.lanes) (sym (get_or-map f old o d [] lt) ∙ left o ol)
      ∙ drop_drop (p * e.lanes) e.lanes (q * e.lanes) (get_or (stub_lists os) o []) (ap (λ n. n * e.lanes) is ∙ (let t : (p + 1) * e.lanes ≡ p * e.lanes + e.lanes = grind arith in t))

pub more_each : {A : Type 0} (P : ℕ → A → Type 0) (xs : List A) (x : A) (n : ℕ) → length xs ≡ n → ((p : ℕ) (d : A) → p < n → P p (get_or xs p d)) → P n x → (p : ℕ) (d : A) → p < n + 1 → P p (get_or (xs ++ x ∷ []) p d)
more_each P xs x n len each now p d lt = dite (ℕ_discrete p n)
    (λ e. subst (P p) (sym (at_end xs x d p (e ∙ sym len))) (subst (λ q. P q x) (sym e) now))
    (λ ne. subst (P p) (sym (before_end xs (x ∷ []) p d (omega arith))) (each p d (omega arith)))

-- a list that has one element more
module _ {A : Type 0} (xs ys : List A) (x : A) (n m : ℕ) (is : ys ≡ xs ++ x ∷ []) (len : length xs ≡ n) (more : m ≡ n + 1) where
  pub kept_each : (P : ℕ → A → Type 0) → ((p : ℕ) (d : A) → p < n → P p (get_or xs p d)) → P n x → (p : ℕ) (d : A) → p < m → P p (get_or ys p d)
  kept_each P each now p d lt = subst (λ l. P p (get_or l p d)) (sym is) (more_each P xs x n len each now p d (omega arith))

  pub kept_len : length ys ≡ m
  kept_len = ap length is ∙ length-append xs (x ∷ []) ∙ (let z : length xs + 1 ≡ m = omega arith in z)

pub all_kept : {A : Type 0} (xs ys : List A) (x : A) → ys ≡ xs ++ x ∷ [] → (P : A → Type 0) → All P xs → P x → All P ys
all_kept xs ys x is P each now = subst (All P) (sym is) (All-push P xs x each now)

-- what holds of the handle at a place, of this handle
pub through : {H : Type 0} (hs : List H) (i : ℕ) (h : H) → h ≡ get_or hs i h → {X : Type 0} (f : H → X) (x : X) → f (get_or hs i h) ≡ x → f h ≡ x
through hs i h is f x e = ap f is ∙ e
