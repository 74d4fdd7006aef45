-- What lists that are posted bit by bit have left.
use Rattle.std.proofs.Common.{◌≡◌, ℕ, ◌+◌, ◌<◌, ◌≤◌, ◌⊎◌, inl, inr, List, [], ◌∷◌, ◌++◌, length, get_or, set, length-set, sym, refl, ap, ◌∙◌, subst, arith, get_or-set_same, get_or-set_other}
use Rattle.std.proofs.Common.{length-append, lt_of_not-le, Option, None, Some, true, zero, suc}
use Rattle.std.proofs.lemmas.List.{get_or_at, get_or_append_left, nil_from_length}
use Rattle.std.proofs.lemmas.List.Elements.{All-contains, Contains-append_left, Contains-push, Contains-push_cases}
use Rattle.std.specs.Prelude.{Contains, option_to_list, is_some, not, vec_len, ◌==◌}
use Rattle.std.specs.List.{list_all}
use Rattle.std.specs.List.Sorted.{IsPermutation}
use Rattle.std.proofs.lemmas.List.Sorted.{Contains-permutation, IsPermutation-sym}
use Rattle.std.proofs.lemmas.Bool.{eqb-true, and_parts}
use mathlib.Core.Logic.{dite}
use native.Mathlib.Decide.{ℕ_discrete, dec_le}
use Rattle.rj_exchange.specs.declared.ledger.parcel.Parcel.{Parcel}
use Rattle.rj_exchange.specs.Cutting.{plan}
use Rattle.rj_exchange.specs.Lawful.{IsPlanned}
use Rattle.rj_exchange.proofs.EngineFacts.{planned_by_cut}
use Rattle.rj_exchange.specs.declared.boxes.Exchange.{Exchange}
use Rattle.rj_exchange.specs.Boxes.{queue_of}
use Rattle.rj_workers.proofs.Lists.{any_default, along}
use Rattle.rj_workers.specs.declared.post.Sending.{Sending}
use Rattle.rj_workers.specs.Posts.{Due, Posts, posts_at, PostsOrKeeps, IsLeft, IsPosted, HasCut, HasPosted, AreInRange, is_sent, to_post}
use Rattle.rj_workers.proofs.Ends.{none_in, cons_cases}
use Rattle.rj_workers.proofs.Posts.{step_keeps, step_adds, step_has, found_at, cut_placed, all_at}

-- nothing is posted
pub sent_none : (e : Exchange) (was is : Parcel → Type 0) (a b : Posts) → ((x : Parcel) → was x → is x) → ((x : Parcel) → is x → was x) → b ≡ a → PostsOrKeeps e was is a b
sent_none e was is a b to from same = record {
  kept = λ q x h. along _ _ x (ap (λ (l : Posts). posts_at l q) (sym same)) h;
  added = λ q x h. inl (along _ _ x (ap (λ (l : Posts). posts_at l q) same) h);
  within = from;
  posted = λ x h. inl (to x h);
}

-- more is posted
pub sent_more : (e : Exchange) (P Q R : Parcel → Type 0) (a b c : Posts) → PostsOrKeeps e P Q a b → PostsOrKeeps e Q R b c → PostsOrKeeps e P R a c
sent_more e P Q R a b c f g = record {
  kept = λ q x h. g.kept q x (f.kept q x h);
  added = λ q x h. elim (g.added q x h) [ inl l ↦ f.added q x l | inr r ↦ inr (f.within x r) ];
  within = λ x h. f.within x (g.within x h);
  posted = λ x h. elim (f.posted x h) [ inl l ↦ g.posted x l | inr r ↦ inr (g.kept (queue_of e x) x r) ];
}

-- the last parcel of a list is posted
pub sent_one : (e : Exchange) (x : Parcel) (xs ys : List Parcel) (old new : Posts) → queue_of e x < length old → new ≡ set old (queue_of e x) (posts_at old (queue_of e x) ++ x ∷ [])
    → xs ≡ ys ++ x ∷ [] → PostsOrKeeps e (Contains xs) (Contains ys) old new
sent_one e x xs ys old new lt is all = record {
  kept = step_keeps e x old new lt is;
  added = λ q y h. elim (step_adds e x old new lt is q y h) [
    | inl l ↦ inl l
    | inr r ↦ inr (elim (cons_cases x y [] r) [
      | inl i ↦ subst (Contains xs) i (along _ _ x (sym all) (Contains-push ys x))
      | inr n ↦ absurd (none_in y n)
    ])
  ];
  within = λ y h. along _ _ y (sym all) (Contains-append_left ys (x ∷ []) y h);
  posted = λ y h. elim (Contains-push_cases ys x y (along _ _ y all h)) [
    | inl l ↦ inl l
    | inr i ↦ inr (subst (IsPosted e new) i (step_has e x old new lt is))
  ];
}

-- what one of the lists has is left
pub left_at : (ss : List Sending) (at : ℕ) (x : Sending) → at < length ss → x ≡ get_or ss at x → (y : Parcel) → Contains (to_post x) y → IsLeft ss y
left_at ss at x lt is y h = (at, lt, λ d. along _ _ y (ap to_post (sym (any_default ss at d x lt ∙ sym is))) h)

-- one of the lists is posted further
module _ (e : Exchange) (ss : List Sending) (at : ℕ) (x s : Sending) (old new : Posts) (lt : at < length ss) (is : x ≡ get_or ss at x) (one : PostsOrKeeps e (Contains (to_post x)) (Contains (to_post s)) old new) where
  at_x : (d : Sending) → get_or ss at d ≡ x
  at_x d = any_default ss at d x lt ∙ sym is

  at_s : (d : Sending) → get_or (set ss at s) at d ≡ s
  at_s d = get_or-set_same ss at s d lt

  here : (y : Parcel) → Contains (to_post x) y → IsLeft ss y
  here y h = (at, lt, λ d. along _ _ y (ap to_post (sym (at_x d))) h)

  now : (y : Parcel) → Contains (to_post s) y → IsLeft (set ss at s) y
  now y h = (at, (let n = length-set ss at s in omega arith), λ d. along _ _ y (ap to_post (sym (at_s d))) h)

  pub sent_at : PostsOrKeeps e (IsLeft ss) (IsLeft (set ss at s)) old new
  sent_at = record {
    kept = one.kept;
    added = λ q y h. elim (one.added q y h) [ inl l ↦ inl l | inr r ↦ inr (here y r) ];
    within = λ y h. dite (ℕ_discrete h.0 at)
        (λ i. here y (one.within y (along _ _ y (ap to_post (ap (λ (n : ℕ). get_or (set ss at s) n s) i ∙ at_s s)) (h.2 s))))
        (λ ne. (h.0, (let n = length-set ss at s in let l = h.1 in omega arith), λ d. along _ _ y (ap to_post (get_or-set_other ss at h.0 s d ne)) (h.2 d)));
    posted = λ y h. dite (ℕ_discrete h.0 at)
        (λ i. elim (one.posted y (along _ _ y (ap to_post (ap (λ (n : ℕ). get_or ss n x) i ∙ sym is)) (h.2 x))) [ inl l ↦ inl (now y l) | inr r ↦ inr r ])
        (λ ne. inl (h.0, (let n = length-set ss at s in let l = h.1 in omega arith), λ d. along _ _ y (ap to_post (sym (get_or-set_other ss at h.0 s d ne))) (h.2 d)));
  }

-- a list more
module _ (ss new : List Sending) (s : Sending) (is : new ≡ ss ++ s ∷ []) where
  pub left_old : (x : Parcel) → IsLeft ss x → IsLeft new x
  left_old x h = subst (λ (l : List Sending). IsLeft l x) (sym is)
      (h.0, (let n = length-append ss (s ∷ []) in let l = h.1 in omega arith), λ d. along _ _ x (ap to_post (sym (get_or_append_left ss (s ∷ []) d h.0 h.1))) (h.2 d))

  pub left_new : (x : Parcel) → Contains (to_post s) x → IsLeft new x
  left_new x h = subst (λ (l : List Sending). IsLeft l x) (sym is)
      (length ss, (let n = length-append ss (s ∷ []) in omega arith), λ d. along _ _ x (ap to_post (sym (get_or_at ss s [] d (length ss) refl))) h)

  pub left_cases : (x : Parcel) → IsLeft new x → IsLeft ss x ⊎ Contains (to_post s) x
  left_cases x g =
      let h = subst (λ (l : List Sending). IsLeft l x) is g in
      dite (dec_le (length ss) h.0)
      (λ le. let n = length-append ss (s ∷ []) in let l = h.1 in inr (along _ _ x (ap to_post (get_or_at ss s [] s h.0 (omega arith))) (h.2 s)))
      (λ ne. let lt : h.0 < length ss = lt_of_not-le ne in inl (h.0, lt, λ d. along _ _ x (ap to_post (get_or_append_left ss (s ∷ []) d h.0 lt)) (h.2 d)))

-- a list more, which has all of a sender's plan for a partition
module _ (due : Due) (block sender p : ℕ) (rows : List ℕ) (ss new : List Sending) (s : Sending) (is : new ≡ ss ++ s ∷ []) (all : IsPermutation (plan block rows sender p) (to_post s)) (of : rows ≡ due sender p) where
  whole : plan block rows sender p ≡ plan block (due sender p) sender p
  whole = ap (λ (w : List ℕ). plan block w sender p) of

  in_plan : (x : Parcel) → Contains (to_post s) x → Contains (plan block rows sender p) x
  in_plan x h = Contains-permutation (to_post s) (plan block rows sender p) x (IsPermutation-sym (plan block rows sender p) (to_post s) all) h

  pub planned_push : ((x : Parcel) → IsLeft ss x → IsPlanned due block x) → (x : Parcel) → IsLeft new x → IsPlanned due block x
  planned_push yet x h = elim (left_cases ss new s is x h) [
    | inl l ↦ yet x l
    | inr r ↦ let f = found_at (plan block (due sender p) sender p) x (along _ _ x whole (in_plan x r)) in planned_by_cut due block sender p f.0 x f.1
  ]

  pub range_push : (e : Exchange) → p < e.partitions → AreInRange e (IsLeft ss) → AreInRange e (IsLeft new)
  range_push e lt yet x h = elim (left_cases ss new s is x h) [
    | inl l ↦ yet x l
    | inr r ↦ subst (λ (n : ℕ). n < e.partitions) (sym (All-contains (λ (y : Parcel). y.partition ≡ p) (plan block rows sender p) x (cut_placed block rows sender p (plan block rows sender p) refl) (in_plan x r))) lt
  ]

  pub cut_more : HasCut due block sender p ss → HasCut due block sender (p + 1) new
  cut_more yet q lt x h = dite (ℕ_discrete q p)
      (λ i. left_new ss new s is x (Contains-permutation (plan block rows sender p) (to_post s) x all (along _ _ x (sym whole) (subst (λ (n : ℕ). Contains (plan block (due sender n) sender n) x) i h))))
      (λ ne. left_old ss new s is x (yet q (omega arith) x h))

pub cut_kept : (due : Due) (block sender n : ℕ) (ss new : List Sending) (s : Sending) → new ≡ ss ++ s ∷ [] → HasCut due block sender n ss → HasCut due block sender n new
cut_kept due block sender n ss new s is yet q lt x h = left_old ss new s is x (yet q lt x h)

-- where all that the lists had was posted, all of a sender's plans were
pub cut_posted : (due : Due) (block sender n : ℕ) (e : Exchange) (ss : List Sending) (ps : Posts) → 1 ≤ e.lanes → HasCut due block sender n ss → ((x : Parcel) → IsLeft ss x → IsPosted e ps x) → HasPosted due block e sender n ps
cut_posted due block sender n e ss ps some cut done p lt =
    let xs : List Parcel = plan block (due sender p) sender p in
    all_at e block sender p (due sender p) xs ps ps some refl (λ i d il. done (get_or xs i d) (cut p lt (get_or xs i d) (i, il, (let g : get_or xs i (get_or xs i d) ≡ get_or xs i d = any_default xs i (get_or xs i d) d il in g))))

-- where all lists are posted nothing is left
eq_zero : (n : ℕ) → (n == 0) ≡ true → n ≡ 0
eq_zero n e = eqb-true n 0 e

none_next : (o : Option Parcel) → not (is_some o) ≡ true → option_to_list o ≡ []
none_next None e = refl
none_next (Some y) e = cc

none_sent : (s : Sending) (x : Parcel) → is_sent s ≡ true → Contains (to_post s) x → ⊥
none_sent s x e h =
    let t = and_parts (not (is_some s.next)) (vec_len s.rest == 0) e in let n = eq_zero (vec_len s.rest) t.1 in let k = s.rest.ok.0 in
    let nil : s.rest.items ≡ [] = nil_from_length s.rest.items (omega arith) in
    none_in x (along _ _ x (ap (λ (l : List Parcel). l ++ option_to_list s.next) nil ∙ none_next s.next t.0) h)

pub none_left : (ss : List Sending) (x : Parcel) → list_all is_sent ss ≡ true → IsLeft ss x → ⊥
none_left [] x all h = absurd (let l = h.1 in omega arith)
none_left (s ∷ ss) x all (zero, l, g) = none_sent s x (and_parts (is_sent s) (list_all is_sent ss) all).0 (g s)
none_left (s ∷ ss) x all (suc i, l, g) = none_left ss x (and_parts (is_sent s) (list_all is_sent ss) all).1 (i, omega arith, g)
