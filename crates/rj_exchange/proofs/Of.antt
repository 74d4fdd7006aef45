-- What a list has of one outbox.
use Rattle.std.proofs.Common.{◌≡◌, ◌≢◌, ℕ, zero, suc, ◌<◌, ◌≤◌, ◌⊎◌, inl, inr, cond, eqb, List, [], ◌∷◌, ◌++◌, length, get_or, sym, refl, ap, ◌∙◌, subst, ⊎_elim, arith, append_assoc, length-append, eq-eqb, ne_eqb}
use mathlib.Core.Option.{some, some-injective, some-ne-none}
use mathlib.Core.Logic.{dite}
use native.Mathlib.Decide.{ℕ_discrete}
use lib.ListN.{get_elem?}
use Rattle.rj_exchange.specs.declared.ledger.parcel.Parcel.{Parcel}
use Rattle.rj_exchange.specs.declared.posted.Posted.{Posted}
use Rattle.rj_exchange.specs.Passing.{of, Interleaves}

module _ {A : Type 0} where
  pub chosen : (k m : ℕ) (a b : A) → k ≡ m → cond (eqb k m) a b ≡ a
  chosen k m a b e = ap (λ t. cond t a b) (eq-eqb k m e)

  pub passed : (k m : ℕ) (a b : A) → k ≢ m → cond (eqb k m) a b ≡ b
  passed k m a b n = ap (λ t. cond t a b) (ne_eqb k m n)

  pub snoc_cases : (l : List A) (a b : A) (j : ℕ) → get_elem? (l ++ a ∷ []) j ≡ some b → (get_elem? l j ≡ some b) ⊎ ((j ≡ length l) × (a ≡ b))
  snoc_cases [] a b zero e = inr (refl, some-injective a b e)
  snoc_cases [] a b (suc j) e = absurd (some-ne-none b (sym e))
  snoc_cases (x ∷ xs) a b zero e = inl e
  snoc_cases (x ∷ xs) a b (suc j) e = ⊎_elim (λ t. inl t) (λ t. inr (ap suc t.0, t.1)) (snoc_cases xs a b j e)

  pub within : (l : List A) (i : ℕ) (a : A) → get_elem? l i ≡ some a → i < length l
  within [] i a e = absurd (some-ne-none a (sym e))
  within (x ∷ xs) zero a e = omega arith
  within (x ∷ xs) (suc i) a e = let r = within xs i a e in omega arith

  pub past_end : (l : List A) (i : ℕ) (d : A) → length l ≤ i → get_or l i d ≡ d
  past_end [] i d le = refl
  past_end (x ∷ xs) zero d le = absurd (omega arith)
  past_end (x ∷ xs) (suc i) d le = past_end xs i d (omega arith)

  pub before_end : (l m : List A) (i : ℕ) (d : A) → i < length l → get_or (l ++ m) i d ≡ get_or l i d
  before_end [] m i d lt = absurd (omega arith)
  before_end (x ∷ xs) m zero d lt = refl
  before_end (x ∷ xs) m (suc i) d lt = before_end xs m i d (omega arith)

  pub at_end : (l : List A) (a d : A) (i : ℕ) → i ≡ length l → get_or (l ++ a ∷ []) i d ≡ a
  at_end [] a d zero e = refl
  at_end [] a d (suc i) e = absurd (omega arith)
  at_end (x ∷ xs) a d zero e = absurd (omega arith)
  at_end (x ∷ xs) a d (suc i) e = at_end xs a d i (omega arith)

pub of-append : (k : ℕ) (xs ys : List Posted) → of k (xs ++ ys) ≡ of k xs ++ of k ys
of-append k [] ys = refl
of-append k (x ∷ xs) ys = dite (ℕ_discrete x.outbox k)
    (λ e. chosen x.outbox k _ _ e ∙ ap (λ l. x.parcel ∷ l) (of-append k xs ys) ∙ ap (λ l. l ++ of k ys) (sym (chosen x.outbox k (x.parcel ∷ of k xs) (of k xs) e)))
    (λ n. passed x.outbox k _ _ n ∙ of-append k xs ys ∙ ap (λ l. l ++ of k ys) (sym (passed x.outbox k (x.parcel ∷ of k xs) (of k xs) n)))

pub append_none : (xs : List Parcel) → xs ++ [] ≡ xs
append_none [] = refl
append_none (x ∷ xs) = ap (λ l. x ∷ l) (append_none xs)

pub of_hit : (k : ℕ) (got items : List Posted) (x : Posted) → x.outbox ≡ k → of k (got ++ (items ++ x ∷ [])) ≡ of k (got ++ items) ++ x.parcel ∷ []
of_hit k got items x e = ap (of k) (sym (append_assoc got items (x ∷ []))) ∙ of-append k (got ++ items) (x ∷ []) ∙ ap (λ l. of k (got ++ items) ++ l) (chosen x.outbox k (x.parcel ∷ []) [] e)

pub of_miss : (k : ℕ) (got items : List Posted) (x : Posted) → x.outbox ≢ k → of k (got ++ (items ++ x ∷ [])) ≡ of k (got ++ items)
of_miss k got items x n = ap (of k) (sym (append_assoc got items (x ∷ []))) ∙ of-append k (got ++ items) (x ∷ []) ∙ ap (λ l. of k (got ++ items) ++ l) (passed x.outbox k (x.parcel ∷ []) [] n) ∙ append_none (of k (got ++ items))

-- the first parcel of outbox k is taken out
cut : (k : ℕ) (p : Parcel) (rest : List Parcel) (b : List Posted) → of k b ≡ p ∷ rest → (c : List Posted) × (length b ≡ suc (length c)) × (of k c ≡ rest) × ((j : ℕ) → j ≢ k → of j c ≡ of j b)
cut k p rest [] e = absurd (cc)
cut k p rest (y ∷ ys) e = dite (ℕ_discrete y.outbox k)
    (λ is. let f : y.parcel ∷ of k ys ≡ p ∷ rest = sym (chosen y.outbox k (y.parcel ∷ of k ys) (of k ys) is) ∙ e in (ys, refl, cc, λ j ne. sym (passed y.outbox j (y.parcel ∷ of j ys) (of j ys) (λ q. ne (sym q ∙ is)))))
    (λ ne. let f : of k ys ≡ p ∷ rest = sym (passed y.outbox k (y.parcel ∷ of k ys) (of k ys) ne) ∙ e in let r = cut k p rest ys f in (
      y ∷ r.0,
      ap suc r.1,
      passed y.outbox k (y.parcel ∷ of k r.0) (of k r.0) ne ∙ r.2,
      λ j other. ap (λ l. cond (eqb y.outbox j) (y.parcel ∷ l) l) (r.3 j other),
    ))

-- what interleaves the same lists is equally long
pub same_length : (a b : List Posted) → ((k : ℕ) → of k a ≡ of k b) → length a ≡ length b
same_length [] [] e = refl
same_length [] (y ∷ ys) e = let f : [] ≡ y.parcel ∷ of y.outbox ys = e y.outbox ∙ chosen y.outbox y.outbox (y.parcel ∷ of y.outbox ys) (of y.outbox ys) refl in absurd (cc)
same_length (x ∷ xs) b e = let k : ℕ = x.outbox in let f : of k b ≡ x.parcel ∷ of k xs = sym (e k) ∙ chosen k k (x.parcel ∷ of k xs) (of k xs) refl in let r = cut k x.parcel (of k xs) b f in
    let same = λ (j : ℕ). (let Goal : Type 0 = of j xs ≡ of j r.0 in let g : Goal = dite (ℕ_discrete k j) (λ is. subst (λ m. of m xs ≡ of m r.0) is (sym r.2))
    (λ ne. sym (passed k j (x.parcel ∷ of j xs) (of j xs) ne) ∙ e j ∙ sym (r.3 j (λ q. ne (sym q)))) in g) in
    ap suc (same_length xs r.0 same) ∙ sym r.1

-- what was taken so far is no more than a look had found
pub room : (known : List (List Parcel)) (taken found rest more : List Posted) (x : Posted) → Interleaves known (taken ++ found) → Interleaves known ((taken ++ rest) ++ (x ∷ more)) → length rest < length found
room known taken found rest more x a b = let e = same_length (taken ++ found) ((taken ++ rest) ++ (x ∷ more)) (λ k. a k ∙ sym (b k)) in
    let l = length-append taken found in let m = length-append (taken ++ rest) (x ∷ more) in let n = length-append taken rest in omega arith
