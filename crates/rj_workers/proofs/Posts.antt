-- How what an outbox has posted grows.
use Rattle.std.proofs.Common.{◌≡◌, ◌≢◌, ℕ, zero, suc, ◌+◌, ◌*◌, ◌%◌, ◌<◌, ◌≤◌, inl, inr, List, [], ◌∷◌, ◌++◌, length, get_or, set, sym, refl, ap, ◌∙◌, subst, arith, get_or-set_same, get_or-set_other}
use Rattle.std.proofs.Common.{append_assoc, append-nil, length-append, Some, slice_get}
use Rattle.std.proofs.lemmas.List.{get_or_at}
use Rattle.std.specs.Prelude.{All, Contains}
use Rattle.std.proofs.lemmas.List.Elements.{Contains-append_left, Contains-push, Contains-push_cases}
use mathlib.Core.Logic.{dite}
use native.Mathlib.Decide.{ℕ_discrete}
use Rattle.rj_exchange.specs.declared.ledger.parcel.Body.{Body}
use Rattle.rj_exchange.specs.declared.ledger.parcel.Parcel.{Parcel}
use Rattle.rj_exchange.specs.Cutting.{bodies, numbered, plan}
use Rattle.rj_exchange.specs.declared.boxes.Exchange.{Exchange}
use Rattle.rj_exchange.specs.Boxes.{queue_of}
use Rattle.rj_workers.proofs.Lists.{row_fits, any_default, along}
use Rattle.rj_workers.specs.Posts.{Due, Posts, posts_at, KeepsPosts, AddsLeft, IsPosted, AreAllAt, HasPosted}

-- one parcel is posted
module _ (e : Exchange) (x : Parcel) (old new : Posts) (lt : queue_of e x < length old) (is : new ≡ set old (queue_of e x) (posts_at old (queue_of e x) ++ x ∷ [])) where
  here : posts_at new (queue_of e x) ≡ posts_at old (queue_of e x) ++ x ∷ []
  here = ap (λ l. get_or l (queue_of e x) []) is ∙ get_or-set_same old (queue_of e x) _ [] lt

  there : (q : ℕ) → q ≢ queue_of e x → posts_at new q ≡ posts_at old q
  there q ne = ap (λ l. get_or l q []) is ∙ get_or-set_other old (queue_of e x) q _ [] ne

  pub step_keeps : KeepsPosts old new
  step_keeps q y h = dite (ℕ_discrete q (queue_of e x))
      (λ i. along _ _ y (sym here ∙ ap (posts_at new) (sym i)) (Contains-append_left (posts_at old (queue_of e x)) (x ∷ []) y (along _ _ y (ap (posts_at old) i) h)))
      (λ ne. along _ _ y (sym (there q ne)) h)

  pub step_adds : AddsLeft (Contains (x ∷ [])) old new
  step_adds q y h = dite (ℕ_discrete q (queue_of e x))
      (λ i. elim (Contains-push_cases (posts_at old (queue_of e x)) x y (along _ _ y (ap (posts_at new) i ∙ here) h)) [
        | inl a ↦ inl (along _ _ y (ap (posts_at old) (sym i)) a)
        | inr b ↦ inr (along (x ∷ []) (x ∷ []) y refl (subst (Contains (x ∷ [])) b (Contains-push [] x)))
      ])
      (λ ne. inl (along _ _ y (there q ne) h))

  pub step_has : Contains (posts_at new (queue_of e x)) x
  step_has = along _ _ x (sym here) (Contains-push (posts_at old (queue_of e x)) x)

-- what is left of a list that is gone through
pub nothing_left : {A : Type 0} (xs ys all : List A) (n : ℕ) → n ≡ 0 → n ≡ length ys → xs ++ ys ≡ all → xs ≡ all
nothing_left xs [] all n z e is = sym (append-nil xs) ∙ is
nothing_left xs (y ∷ ys) all n z e is = absurd (omega arith)

pub next_is : {A : Type 0} (xs ys zs all : List A) (y : A) → ys ≡ y ∷ zs → xs ++ ys ≡ all → (xs ++ y ∷ []) ++ zs ≡ all
next_is xs ys zs all y e is = append_assoc xs (y ∷ []) zs ∙ ap (λ l. xs ++ l) (sym e) ∙ is

pub next_len : {A : Type 0} (ys zs : List A) (y : A) (n m : ℕ) → ys ≡ y ∷ zs → n ≡ length ys → m + 1 ≡ n → m ≡ length zs
next_len ys zs y n m e len less = let l = ap length e in omega arith

-- the place of a parcel's queue
pub queue_fits : (e : Exchange) (x : Parcel) (n : ℕ) → x.partition < e.partitions → 1 ≤ e.lanes → n ≡ e.partitions * e.lanes → queue_of e x < n
queue_fits e x n p l is = subst (λ m. queue_of e x < m) (sym is) (row_fits x.partition e.partitions e.lanes (x.number % e.lanes) p (omega arith))

-- a parcel of a list is found at a place of it
pub found_at : (xs : List Parcel) (x : Parcel) → Contains xs x → (i : ℕ) × (slice_get xs i ≡ Some x)
found_at [] x h = absurd (let l = h.1 in omega arith)
found_at (y ∷ ys) x (zero, l, e) = (0, ap Some e)
found_at (y ∷ ys) x (suc k, l, e) = let r = found_at ys x (k, omega arith, e) in (suc r.0, r.1)

-- the parcels of a cut are of their partition
numbered_placed : (sender part n : ℕ) (bs : List Body) (i : ℕ) (x : Parcel) → slice_get (numbered sender part n bs) i ≡ Some x → x.partition ≡ part
numbered_placed sender part n [] i x h = cc
numbered_placed sender part n (b ∷ bs) zero x h =
    let first : Parcel = record { sender = sender; partition = part; number = n; body = b } in
    let e : first ≡ x = cc in sym (ap (λ (y : Parcel). y.partition) e)
numbered_placed sender part n (b ∷ bs) (suc i) x h = numbered_placed sender part (n + 1) bs i x h

pub cut_placed : (block : ℕ) (rows : List ℕ) (sender part : ℕ) (xs : List Parcel) → xs ≡ plan block rows sender part → All (λ (x : Parcel). x.partition ≡ part) xs
cut_placed block rows sender part xs is i d lt =
    let f = found_at xs (get_or xs i d) (i, lt, (let e : get_or xs i (get_or xs i d) ≡ get_or xs i d = any_default xs i (get_or xs i d) d lt in e)) in
    numbered_placed sender part 0 (bodies block rows) f.0 (get_or xs i d) (ap (λ (l : List Parcel). slice_get l f.0) (sym is) ∙ f.1)

-- what one sender has for one partition is posted
module _ (e : Exchange) (block sender part : ℕ) (rows : List ℕ) (xs : List Parcel) (a b : Posts) (some : 1 ≤ e.lanes) (is : xs ≡ plan block rows sender part) where
  pub all_at : All (IsPosted e b) xs → AreAllAt e b part (plan block rows sender part)
  all_at has = subst (AreAllAt e b part) is (λ i d lt.
      let x : Parcel = get_or xs i d in
      let rem : x.number % e.lanes < e.lanes = omega arith in
      (x.number % e.lanes, rem, subst (λ p. Contains (posts_at b (p * e.lanes + x.number % e.lanes)) x) (cut_placed block rows sender part xs is i d lt) (has i d lt)))

pub kept_at : (e : Exchange) (a b : Posts) (p : ℕ) (xs : List Parcel) → KeepsPosts a b → AreAllAt e a p xs → AreAllAt e b p xs
kept_at e a b p xs keep has = λ i d lt. let h = has i d lt in (h.0, h.1, keep (p * e.lanes + h.0) (get_or xs i d) h.2)

pub kept_posted : (due : Due) (block : ℕ) (e : Exchange) (sender n : ℕ) (a b : Posts) → KeepsPosts a b → HasPosted due block e sender n a → HasPosted due block e sender n b
kept_posted due block e sender n a b keep has = λ p lt. kept_at e a b p (plan block (due sender p) sender p) keep (has p lt)

pub next_at : {A : Type 0} (xs ys zs all : List A) (x : A) → ys ≡ x ∷ zs → xs ++ ys ≡ all → (length xs < length all) × (get_or all (length xs) x ≡ x)
next_at xs ys zs all x is parts =
    let whole : xs ++ (x ∷ zs) ≡ all = ap (λ l. xs ++ l) (sym is) ∙ parts in let n = ap length whole in let m = length-append xs (x ∷ zs) in
    (omega arith, ap (λ l. get_or l (length xs) x) (sym whole) ∙ get_or_at xs x zs x (length xs) refl)
