-- Each move keeps the rule of the stripe queue.
use Rattle.std.proofs.Common.{◌≡◌, ◌≢◌, ℕ, zero, suc, ◌+◌, ◌<◌, ◌≤◌, List, [], ◌∷◌, ◌++◌, length, set, sym, refl, ap, ◌∙◌, subst, ⊎_elim, ◌⊎◌, ◌↔◌, inl, inr, arith, lt_of_not-le}
use mathlib.Core.Option.{some, some-injective, some-ne-none}
use mathlib.Core.Logic.{dite}
use native.Mathlib.Decide.{ℕ_discrete, dec_le}
use lib.ListN.{get_elem?}
use Rattle.crossbeam_queue.specs.Fifo.{Pushes, Pops, Forks, Merges, Learns}
use Rattle.crossbeam_queue.proofs.Lists.{at_set, at_snoc}
use Rattle.rj_exchange.specs.declared.stripes.Stripe.{Stripe}
use Rattle.rj_exchange.specs.declared.stripes.StripeShare.{StripeShare}
use Rattle.rj_exchange.specs.Totals.{total, total_below}
use Rattle.rj_exchange.specs.Tickets.{times}
use Rattle.rj_exchange.specs.Striping.{share, below, opening, without, total_queued, FitsShare, Striping, first_share, no_share, Accounts, Drew, Gave, share_after_cut, share_cut_off, shares_joined}
use Rattle.rj_exchange.proofs.Of.{chosen, passed}
use Rattle.rj_exchange.proofs.Totals.{total-append, total-snoc, total-set, total-one, one_le_total, sole, below_ones, below_over, below_under, here, here_same, here_other}

-- two of them are no more than all
two_le_total : {V : Type 0} (f : V → ℕ) (l : List V) (i j : ℕ) (v w : V) → get_elem? l i ≡ some v → get_elem? l j ≡ some w → j ≢ i → f v + f w ≤ total f l
two_le_total f [] i j v w a b ne = absurd (some-ne-none v (sym a))
two_le_total f (x ∷ xs) zero zero v w a b ne = absurd (ne refl)
two_le_total f (x ∷ xs) zero (suc j) v w a b ne = let e : f x ≡ f v = ap f (some-injective x v a) in let r = one_le_total f xs j w b in omega arith
two_le_total f (x ∷ xs) (suc i) zero v w a b ne = let e : f x ≡ f w = ap f (some-injective x w b) in let r = one_le_total f xs i v a in omega arith
two_le_total f (x ∷ xs) (suc i) (suc j) v w a b ne = let r = two_le_total f xs i j v w a b (λ e. ne (ap suc e)) in omega arith

pub total-below : (h : ℕ → ℕ) (n : ℕ) → total h (below n) ≡ total_below h n
total-below h zero = refl
total-below h (suc m) = let r = total-below h m in let t = total-snoc h (below m) m in omega arith

pub total-without : (h : ℕ → ℕ) (x : ℕ) (l : List ℕ) → 0 < times x l → total h (without x l) + h x ≡ total h l
total-without h x [] some_x = absurd (omega arith)
total-without h x (y ∷ ys) some_x = dite (ℕ_discrete y x)
    (λ e. let c = ap (total h) (chosen y x ys (y ∷ without x ys) e) in let i : h y ≡ h x = ap h e in omega arith)
    (λ n. let c = ap (total h) (passed y x ys (y ∷ without x ys) n) in let m : 0 < 0 + times x ys = subst (λ (k : ℕ). 0 < k + times x ys) (here_other x y n) some_x in
    let some_more : 0 < times x ys = omega arith in let r = total-without h x ys some_more in omega arith)

pub nothing : (l : List ℕ) → total (λ _. 1) l ≡ 0 → l ≡ []
nothing [] e = refl
nothing (x ∷ xs) e = absurd (omega arith)

pub accounts : (pass : ℕ) (v : StripeShare) → 0 < v.parts → Learns Striping pass v (Accounts v)
accounts pass v part items views r at = let fit = (r.fits pass v at).1 part in (
  (λ h. let t = one_le_total (λ (u : StripeShare). total h u.held) views pass v at in let n = r.numbers h in let e = ap (total_below h) fit.0 in omega arith),
  (λ all h. let s = sole (λ (u : StripeShare). u.parts) (λ u. total h u.held) views pass v at (r.parts ∙ sym (all ∙ fit.1)) (λ j w at_w none_of. ap (total h) ((r.fits j w at_w).0 none_of).0) in
      let n = r.numbers h in let e = ap (total_below h) fit.0 in omega arith),
  (λ all h. let d = sole (λ (u : StripeShare). u.parts) (λ u. total h u.drawn) views pass v at (r.parts ∙ sym (all ∙ fit.1)) (λ j w at_w none_of. ap (total h) ((r.fits j w at_w).0 none_of).1) in
      let p = sole (λ (u : StripeShare). u.parts) (λ u. total h u.put) views pass v at (r.parts ∙ sym (all ∙ fit.1)) (λ j w at_w none_of. ap (total h) ((r.fits j w at_w).0 none_of).2) in
      let n = r.stripes h in let e = ap (λ m. total h (opening m)) fit.0 in omega arith),
)

-- one seat holds other numbers, as the queue does
moved : (items items' : List Stripe) (views : List StripeShare) (pass : ℕ) (v : StripeShare) (l : List ℕ) (drawn put : List Stripe) → Striping items views → get_elem? views pass ≡ some v → 0 < v.parts
    → ((h : ℕ → ℕ) → total h l + total_queued h items' ≡ total h v.held + total_queued h items)
    → ((h : Stripe → ℕ) → total h drawn + total h items' + total h v.put ≡ total h v.drawn + total h items + total h put) → Striping items' (set views pass (share v.limit v.seats v.parts l drawn put))
moved items items' views pass v l drawn put r at part same same' = let w : StripeShare = share v.limit v.seats v.parts l drawn put in record {
  limit = r.limit;
  seats = r.seats;
  parts = (let t = total-set (λ (u : StripeShare). u.parts) views pass v w at in let p = r.parts in omega arith);
  numbers = λ h. (let t = total-set (λ (u : StripeShare). total h u.held) views pass v w at in let n = r.numbers h in let s = same h in omega arith);
  stripes = λ h. (let d = total-set (λ (u : StripeShare). total h u.drawn) views pass v w at in let p = total-set (λ (u : StripeShare). total h u.put) views pass v w at in let n = r.stripes h in let s = same' h in omega arith);
  fits = λ j u e. ⊎_elim (λ x. subst (FitsShare r.limit r.seats) x.1 ((λ z. absurd (omega arith)), (r.fits pass v at).1)) (λ x. r.fits j u x.1) (at_set views pass j w u e);
}

pub gives : (n pass : ℕ) (v : StripeShare) (x : Stripe) → 0 < v.parts → 0 < times x.number v.held → Pushes Striping n pass v x (Gave v x)
gives n pass v x part has items views room r at = (
  share v.limit v.seats v.parts (without x.number v.held) v.drawn (v.put ++ x ∷ []),
  moved items (items ++ x ∷ []) views pass v (without x.number v.held) v.drawn (v.put ++ x ∷ []) r at part (λ h. let t = total-without h x.number v.held has in let s = total-snoc (λ (y : Stripe). h y.number) items x in omega arith)
      (λ h. let s = total-snoc h items x in let t = total-snoc h v.put x in omega arith),
  refl,
)

pub takes : (pass : ℕ) (v : StripeShare) → 0 < v.parts → Pops Striping pass v (Drew v)
takes pass v part x items views r at = (
  share v.limit v.seats v.parts (v.held ++ x.number ∷ []) (v.drawn ++ x ∷ []) v.put,
  moved (x ∷ items) items views pass v (v.held ++ x.number ∷ []) (v.drawn ++ x ∷ []) v.put r at part (λ h. let s = total-snoc h v.held x.number in omega arith) (λ h. let s = total-snoc h v.drawn x in omega arith),
  (
    refl,
    dite (dec_le v.limit x.number)
        (λ le. absurd (let a = (accounts pass v part (x ∷ items) views r at).0 (here x.number) in let o = below_over x.number v.limit le in let s = here_same x.number in omega arith))
        (λ n. lt_of_not-le n),
  ),
)

pub opens : Striping [] (first_share ∷ [])
opens = record {
  limit = 0;
  seats = 1;
  parts = refl;
  numbers = λ h. refl;
  stripes = λ h. refl;
  fits = λ id v e. fresh id v e;
}
  where
    fresh : (id : ℕ) (v : StripeShare) → get_elem? (first_share ∷ []) id ≡ some v → FitsShare 0 1 v
    fresh zero v e = subst (FitsShare 0 1) (some-injective first_share v e) ((λ z. absurd (omega arith)), λ _. (refl, refl))
    fresh (suc id) v e = absurd (some-ne-none v (sym e))

pub deals : (pass : ℕ) (v : StripeShare) (n m : ℕ) → v ≡ first_share → 1 ≤ m → Forks Striping pass v (share n m m (below n) (opening n) []) no_share
deals pass v n m is some_seat items views r at =
    let one : v.parts ≡ 1 = ap (λ (u : StripeShare). u.parts) is in let fit = (r.fits pass v at).1 (omega arith) in let l : StripeShare = share n m m (below n) (opening n) [] in let vs : List StripeShare = set views pass l in
    let limit : r.limit ≡ 0 = sym fit.0 ∙ ap (λ (u : StripeShare). u.limit) is in let seats : r.seats ≡ 1 = sym fit.1 ∙ ap (λ (u : StripeShare). u.seats) is in record {
      limit = n;
      seats = m;
      parts = (let t = total-set (λ (u : StripeShare). u.parts) views pass v l at in let a = total-snoc (λ (u : StripeShare). u.parts) vs no_share in let p = r.parts in omega arith);
      numbers = λ h. (let t = total-set (λ (u : StripeShare). total h u.held) views pass v l at in let a = total-snoc (λ (u : StripeShare). total h u.held) vs no_share in let q = r.numbers h in let b = total-below h n in
          let z = ap (total_below h) limit in let y = ap (λ (u : StripeShare). total h u.held) is in omega arith);
      stripes = λ h. (let t = total-set (λ (u : StripeShare). total h u.drawn) views pass v l at in let a = total-snoc (λ (u : StripeShare). total h u.drawn) vs no_share in
          let t' = total-set (λ (u : StripeShare). total h u.put) views pass v l at in let a' = total-snoc (λ (u : StripeShare). total h u.put) vs no_share in let q = r.stripes h in
          let z = ap (λ k. total h (opening k)) limit in let y = ap (λ (u : StripeShare). total h u.drawn) is in let y' = ap (λ (u : StripeShare). total h u.put) is in omega arith);
      fits = λ j u e. ⊎_elim
          (λ old. ⊎_elim (λ x. subst (FitsShare n m) x.1 ((λ z. absurd (omega arith)), λ _. (refl, refl)))
          (λ x. let none : u.parts ≡ 0 = (let t = two_le_total (λ (w : StripeShare). w.parts) views pass j v u at x.1 x.0 in let p = r.parts in omega arith) in ((r.fits j u x.1).0, λ z. absurd (omega arith)))
          (at_set views pass j l u old))
          (λ new. subst (FitsShare n m) new ((λ z. (refl, refl, refl)), λ z. absurd (omega arith)))
          (at_snoc vs no_share u j e);
    }

pub settles : (pass : ℕ) (v : StripeShare) → 0 < v.parts → ((h : Stripe → ℕ) → total h v.drawn ≡ total h v.put) → Forks Striping pass v (share v.limit v.seats v.parts v.held [] []) no_share
settles pass v part even items views r at = let l : StripeShare = share v.limit v.seats v.parts v.held [] [] in let vs : List StripeShare = set views pass l in
    let now : Striping items vs = moved items items views pass v v.held [] [] r at part (λ h. refl) (λ h. let e = even h in omega arith) in record {
      limit = now.limit;
      seats = now.seats;
      parts = (let a = total-snoc (λ (u : StripeShare). u.parts) vs no_share in let p = now.parts in omega arith);
      numbers = λ h. (let a = total-snoc (λ (u : StripeShare). total h u.held) vs no_share in let q = now.numbers h in omega arith);
      stripes = λ h. (let d = total-snoc (λ (u : StripeShare). total h u.drawn) vs no_share in let p = total-snoc (λ (u : StripeShare). total h u.put) vs no_share in let q = now.stripes h in omega arith);
      fits = λ j u e. ⊎_elim (λ old. now.fits j u old) (λ new. subst (FitsShare now.limit now.seats) new ((λ z. (refl, refl, refl)), λ z. absurd (omega arith))) (at_snoc vs no_share u j e);
    }

pub cuts : (pass : ℕ) (v : StripeShare) → 1 < v.parts → Forks Striping pass v (share_after_cut v) (share_cut_off v)
cuts pass v some_parts items views r at = let fit = (r.fits pass v at).1 (omega arith) in let l : StripeShare = share_after_cut v in let c : StripeShare = share_cut_off v in let vs : List StripeShare = set views pass l in record {
  limit = r.limit;
  seats = r.seats;
  parts = (let t = total-set (λ (u : StripeShare). u.parts) views pass v l at in let a = total-snoc (λ (u : StripeShare). u.parts) vs c in let p = r.parts in omega arith);
  numbers = λ h. (let t = total-set (λ (u : StripeShare). total h u.held) views pass v l at in let a = total-snoc (λ (u : StripeShare). total h u.held) vs c in let q = r.numbers h in omega arith);
  stripes = λ h. (let t = total-set (λ (u : StripeShare). total h u.drawn) views pass v l at in let a = total-snoc (λ (u : StripeShare). total h u.drawn) vs c in
      let t' = total-set (λ (u : StripeShare). total h u.put) views pass v l at in let a' = total-snoc (λ (u : StripeShare). total h u.put) vs c in let q = r.stripes h in omega arith);
  fits = λ j u e. ⊎_elim
      (λ old. ⊎_elim (λ x. subst (FitsShare r.limit r.seats) x.1 ((λ z. absurd (omega arith)), λ _. fit)) (λ x. r.fits j u x.1) (at_set views pass j l u old))
      (λ new. subst (FitsShare r.limit r.seats) new ((λ z. (refl, refl, refl)), λ _. fit))
      (at_snoc vs c u j e);
}

pub merges : (pass : ℕ) (v : StripeShare) (other : ℕ) (w : StripeShare) → 0 < v.parts → Merges Striping pass v other w (shares_joined v w) no_share
merges pass v other w part items views r at apart at' = let b : StripeShare = shares_joined v w in let vs : List StripeShare = set views pass b in let fit = (r.fits pass v at).1 part in
    record {
      limit = r.limit;
      seats = r.seats;
      parts = (let t = total-set (λ (u : StripeShare). u.parts) views pass v b at in let a = total-set (λ (u : StripeShare). u.parts) vs other w no_share at' in let p = r.parts in omega arith);
      numbers = λ h. (let t = total-set (λ (u : StripeShare). total h u.held) views pass v b at in let a = total-set (λ (u : StripeShare). total h u.held) vs other w no_share at' in
          let n = total-append h v.held w.held in let q = r.numbers h in omega arith);
      stripes = λ h. (let t = total-set (λ (u : StripeShare). total h u.drawn) views pass v b at in let a = total-set (λ (u : StripeShare). total h u.drawn) vs other w no_share at' in let n = total-append h v.drawn w.drawn in
          let t' = total-set (λ (u : StripeShare). total h u.put) views pass v b at in let a' = total-set (λ (u : StripeShare). total h u.put) vs other w no_share at' in let n' = total-append h v.put w.put in let q = r.stripes h in omega arith);
      fits = λ j u e. ⊎_elim (λ x. subst (FitsShare r.limit r.seats) x.1 ((λ z. (refl, refl, refl)), λ z. absurd (omega arith)))
          (λ x. ⊎_elim (λ y. subst (FitsShare r.limit r.seats) y.1 ((λ z. absurd (omega arith)), λ _. fit)) (λ y. r.fits j u y.1) (at_set views pass j b u x.1))
          (at_set vs other j no_share u e);
    }

-- a queue with room for every number isn't full while a seat holds one
pub never_full : (n x : ℕ) (v : StripeShare) (items : List Stripe) → 0 < times x v.held → v.limit ≡ n → length items ≡ n → Accounts v items → ⊥
never_full n x v items has limit full a = let s = a.0 (λ _. 1) in let b = below_ones v.limit in let l = total-one items in let t = total-without (λ _. 1) x v.held has in omega arith

-- the first number of those that are left
pub first_left : (x n : ℕ) (l : List ℕ) → ((h : ℕ → ℕ) → total h l + total_below h x ≡ total_below h n) → x < n → 0 < times x l
first_left x n l left lt = let f : ℕ → ℕ = here x in let s = left f in let u = below_under x n lt in let o = below_over x x (omega arith) in omega arith

pub holds_last : (old new : List ℕ) (x : ℕ) → new ≡ old ++ x ∷ [] → 0 < times x new
holds_last old new x e = let f : ℕ → ℕ = here x in let t = total-snoc f old x in let a = ap (total f) e in let s = here_same x in omega arith

pub gains_one : (old new : List ℕ) (s x : ℕ) → new ≡ old ++ s ∷ [] → (0 < times x new) ↔ ((0 < times x old) ⊎ (x ≡ s))
gains_one old new s x is =
    let t = ap (times x) is in let u = total-snoc (here x) old s in (
      λ h. dite (ℕ_discrete s x) (λ e. inr (sym e)) (λ ne. inl (let z = here_other x s ne in omega arith)),
      λ h. elim h [ inl o ↦ omega arith | inr e ↦ (let z : here x s ≡ 1 = ap (here x) (sym e) ∙ here_same x in omega arith) ],
    )

-- a number that is drawn and then put back leaves each number held as often as before
pub put_back_undoes : (xs : List ℕ) (s x : ℕ) → times x (without s (xs ++ s ∷ [])) ≡ times x xs
put_back_undoes xs s x =
    let u = total-snoc (here x) xs s in
    let w = total-without (here x) s (xs ++ s ∷ []) (holds_last xs (xs ++ s ∷ []) s refl) in omega arith
