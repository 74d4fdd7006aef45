-- Sums over lists, and over the list of views after a step.
use Rattle.std.proofs.Common.{◌≡◌, ◌≢◌, ℕ, zero, suc, ◌+◌, ◌<◌, ◌≤◌, eqb, cond, List, [], ◌∷◌, ◌++◌, length, get_or, set, sym, refl, ap, ◌∙◌, arith, eq-eqb, ne_eqb}
use mathlib.Core.Option.{some, some-injective, some-ne-none}
use mathlib.Core.Logic.{dite}
use native.Mathlib.Decide.{ℕ_discrete}
use lib.ListN.{get_elem?}
use Rattle.rj_exchange.specs.Totals.{total, total_below}

module _ {V : Type 0} where
  pub total-append : (f : V → ℕ) (xs ys : List V) → total f (xs ++ ys) ≡ total f xs + total f ys
  total-append f [] ys = omega arith
  total-append f (x ∷ xs) ys = let r = total-append f xs ys in omega arith

  pub total-snoc : (f : V → ℕ) (xs : List V) (y : V) → total f (xs ++ y ∷ []) ≡ total f xs + f y
  total-snoc f xs y = let r = total-append f xs (y ∷ []) in omega arith

  -- after a change of one
  pub total-set : (f : V → ℕ) (l : List V) (i : ℕ) (v w : V) → get_elem? l i ≡ some v → total f (set l i w) + f v ≡ total f l + f w
  total-set f [] i v w e = absurd (some-ne-none v (sym e))
  total-set f (x ∷ xs) zero v w e = let is : f x ≡ f v = ap f (some-injective x v e) in omega arith
  total-set f (x ∷ xs) (suc i) v w e = let r = total-set f xs i v w e in omega arith

  pub total-plus : (f g : V → ℕ) (l : List V) → total (λ v. f v + g v) l ≡ total f l + total g l
  total-plus f g [] = refl
  total-plus f g (x ∷ xs) = let r = total-plus f g xs in omega arith

  pub total-one : (l : List V) → total (λ _. 1) l ≡ length l
  total-one [] = refl
  total-one (x ∷ xs) = let r = total-one xs in omega arith

  pub total-same : (f g : V → ℕ) (l : List V) → ((v : V) → f v ≡ g v) → total f l ≡ total g l
  total-same f g [] e = refl
  total-same f g (x ∷ xs) e = let r = total-same f g xs e in let q = e x in omega arith

  pub total_le : (f g : V → ℕ) (l : List V) → ((i : ℕ) (v : V) → get_elem? l i ≡ some v → f v ≤ g v) → total f l ≤ total g l
  total_le f g [] e = omega arith
  total_le f g (x ∷ xs) e = let r = total_le f g xs (λ i v at. e (suc i) v at) in let q = e 0 x refl in omega arith

  -- one of them is no more than all
  pub one_le_total : (f : V → ℕ) (l : List V) (i : ℕ) (v : V) → get_elem? l i ≡ some v → f v ≤ total f l
  one_le_total f [] i v e = absurd (some-ne-none v (sym e))
  one_le_total f (x ∷ xs) zero v e = let is : f x ≡ f v = ap f (some-injective x v e) in omega arith
  one_le_total f (x ∷ xs) (suc i) v e = let r = one_le_total f xs i v e in omega arith

  pub total_none : (f : V → ℕ) (l : List V) → ((i : ℕ) (v : V) → get_elem? l i ≡ some v → f v ≡ 0) → total f l ≡ 0
  total_none f [] e = refl
  total_none f (x ∷ xs) e = let r = total_none f xs (λ i v at. e (suc i) v at) in let q = e 0 x refl in omega arith

  -- where one has every part, and whoever has no part has nothing of f, it has all of f
  pub sole : (p f : V → ℕ) (l : List V) (i : ℕ) (v : V) → get_elem? l i ≡ some v → total p l ≡ p v → ((j : ℕ) (w : V) → get_elem? l j ≡ some w → p w ≡ 0 → f w ≡ 0) → total f l ≡ f v
  sole p f [] i v e all idle = absurd (some-ne-none v (sym e))
  sole p f (x ∷ xs) zero v e all idle = let a : p x ≡ p v = ap p (some-injective x v e) in let b : f x ≡ f v = ap f (some-injective x v e) in
      let none = total_none f xs (λ j w at. idle (suc j) w at (let q = one_le_total p xs j w at in omega arith)) in omega arith
  sole p f (x ∷ xs) (suc i) v e all idle = let q = one_le_total p xs i v e in let none : p x ≡ 0 = omega arith in
      let r = sole p f xs i v e (omega arith) (λ j w at. idle (suc j) w at) in let z = idle 0 x refl none in omega arith

pub below_ones : (m : ℕ) → total_below (λ _. 1) m ≡ m
below_ones zero = refl
below_ones (suc m) = let r = below_ones m in omega arith

abbrev pub here : ℕ → ℕ → ℕ
here x y = cond (eqb y x) 1 0

pub here_same : (x : ℕ) → here x x ≡ 1
here_same x = ap (λ b. cond b 1 0) (eq-eqb x x refl)

pub here_other : (x y : ℕ) → y ≢ x → here x y ≡ 0
here_other x y n = ap (λ b. cond b 1 0) (ne_eqb y x n)

pub below_over : (x m : ℕ) → m ≤ x → total_below (here x) m ≡ 0
below_over x zero le = refl
below_over x (suc m) le = let r = below_over x m (omega arith) in let o = here_other x m (λ e. omega arith) in omega arith

pub below_under : (x m : ℕ) → x < m → total_below (here x) m ≡ 1
below_under x zero lt = absurd (omega arith)
below_under x (suc m) lt = dite (ℕ_discrete m x)
    (λ e. let r = below_over x m (omega arith) in let s : here x m ≡ 1 = ap (here x) e ∙ here_same x in omega arith)
    (λ n. let r = below_under x m (omega arith) in let o = here_other x m n in omega arith)

-- the word of a table of one word
pub index_of : (ws : List ℕ) (word : ℕ) → get_elem? ws 0 ≡ some word → get_or ws 0 0 ≡ word
index_of [] word e = absurd (some-ne-none word (sym e))
index_of (w ∷ ws) word e = some-injective w word e
