-- How many elements of a list pass a test.
use Rattle.std.proofs.Common.{◌≡◌, ℕ, zero, suc, ◌+◌, ◌<◌, ◌≤◌, ◌&&◌, Bool, true, false, cond, List, [], ◌∷◌, ◌++◌, inl, inr, length, map, refl, ap, sym, ◌∙◌, arith}
use Rattle.std.specs.List.{Contains, count_by, filter, flat_map, list_all, range_with_len}
use Rattle.std.proofs.lemmas.Bool.Decides.{eqb_tells}
use Rattle.std.proofs.lemmas.List.Sums.{count_by-le-length, sum_by-append, sum_by-cons}

module _ {X : Type 0} (p : X → Bool) where
  pub count_cons : (x : X) (xs : List X) → count_by p (x ∷ xs) ≡ cond (p x) 1 0 + count_by p xs
  count_cons x xs = sum_by-cons (λ x. cond (p x) 1 0) x xs

  pub count_append : (xs ys : List X) → count_by p (xs ++ ys) ≡ count_by p xs + count_by p ys
  count_append xs ys = sum_by-append (λ x. cond (p x) 1 0) xs ys

  count_if : (b : Bool) (x : X) (xs : List X) → count_by p (cond b (x ∷ xs) xs) ≡ cond b (cond (p x) 1 0 + count_by p xs) (count_by p xs)
  count_if true x xs = count_cons x xs
  count_if false x xs = refl

  kept_or_not : (a b c : Bool) (f n : ℕ) → (a ≡ true → b ≡ c) → f ≡ cond c n 0 → cond b (cond a 1 0 + f) f ≡ cond c (cond a 1 0 + n) 0
  kept_or_not true true true f n same e = omega (arith, e)
  kept_or_not true true false f n same e = let no : true ≡ false = same refl in cc
  kept_or_not true false true f n same e = let no : false ≡ true = same refl in cc
  kept_or_not true false false f n same e = e
  kept_or_not false true true f n same e = omega (arith, e)
  kept_or_not false true false f n same e = omega (arith, e)
  kept_or_not false false true f n same e = omega (arith, e)
  kept_or_not false false false f n same e = e

  -- where another test says one and the same of all that pass, a filter by it keeps all of these, or none
  pub count_filter : (q : X → Bool) (c : Bool) → ((x : X) → p x ≡ true → q x ≡ c) → (xs : List X) → count_by p (filter q xs) ≡ cond c (count_by p xs) 0
  count_filter q true same [] = refl
  count_filter q false same [] = refl
  count_filter q c same (x ∷ xs) =
      count_if (q x) x (filter q xs)
      ∙ (kept_or_not (p x) (q x) c (count_by p (filter q xs)) (count_by p xs) (same x) (count_filter q c same xs) ∙ ap (λ n. cond c n 0) (sym (count_cons x xs)))

  pub count_none : ((x : X) → p x ≡ false) → (xs : List X) → count_by p xs ≡ 0
  count_none none [] = refl
  count_none none (x ∷ xs) = count_cons x xs ∙ ((λ t. cond (none x t) 1 0 + count_none none xs t) ∙ refl)

  -- all pass exactly where as many pass as there are
  pub counted_all : (xs : List X) → list_all p xs ≡ true → count_by p xs ≡ length xs
  counted_all [] all = refl
  counted_all (x ∷ xs) all = by_test (p x) (count_cons x xs) all (counted_all xs)
    where
      by_test : (b : Bool) → count_by p (x ∷ xs) ≡ cond b 1 0 + count_by p xs → (b && list_all p xs) ≡ true → (list_all p xs ≡ true → count_by p xs ≡ length xs) → count_by p (x ∷ xs) ≡ length (x ∷ xs)
      by_test true e all rest = let r = rest all in e ∙ omega (arith, r)
      by_test false e all rest = let no : false ≡ true = all in cc

  pub all_counted : (xs : List X) → count_by p xs ≡ length xs → list_all p xs ≡ true
  all_counted [] many = refl
  all_counted (x ∷ xs) many = by_test (p x) (count_cons x xs) (all_counted xs)
    where
      by_test : (b : Bool) → count_by p (x ∷ xs) ≡ cond b 1 0 + count_by p xs → (count_by p xs ≡ length xs → list_all p xs ≡ true) → (b && list_all p xs) ≡ true
      by_test true e rest = rest (omega (arith, e, many))
      by_test false e rest = let most = count_by-le-length p xs in absurd (omega (arith, e, many, most))

  -- one that passes
  pub record Found (xs : List X) : Type 0 where
    pub at : X
    pub there : Contains xs at
    pub passes : p at ≡ true

  found_later : (x : X) (xs : List X) → Found xs → Found (x ∷ xs)
  found_later x xs f = record { at = f.at; there = (suc f.there.0, omega (arith, f.there.1), f.there.2); passes = f.passes }

  pub found : (xs : List X) → 0 < count_by p xs → Found xs
  found [] some = absurd (omega (arith, some))
  found (x ∷ xs) some = by_test (p x) refl (count_cons x xs) (found xs)
    where
      by_test : (b : Bool) → p x ≡ b → count_by p (x ∷ xs) ≡ cond b 1 0 + count_by p xs → (0 < count_by p xs → Found xs) → Found (x ∷ xs)
      by_test true passes e rest = record { at = x; there = (0, omega arith, refl); passes = passes }
      by_test false passes e rest = found_later x xs (rest (omega (arith, e, some)))

pub count_map : {X Y : Type 0} (p : Y → Bool) (f : X → Y) (xs : List X) → count_by p (map f xs) ≡ count_by (λ x. p (f x)) xs
count_map p f [] = refl
count_map p f (x ∷ xs) = count_cons p (f x) (map f xs) ∙ (ap (λ n. cond (p (f x)) 1 0 + n) (count_map p f xs) ∙ sym (count_cons (λ x. p (f x)) x xs))

-- of the lists of numbers below a bound, of which only that of number s has elements that pass
module _ {X : Type 0} (p : X → Bool) (f : ℕ → List X) (s bound : ℕ) (elsewhere : (t : ℕ) → t < bound → (t ≡ s → ⊥) → count_by p (f t) ≡ 0) where
  none_from : (a n : ℕ) → s < a → a + n ≤ bound → count_by p (flat_map f (range_with_len a n)) ≡ 0
  none_from a zero low high = refl
  none_from a (suc n) low high =
      let here = elsewhere a (omega (arith, high)) (λ e. omega (arith, e, low)) in
      let later = none_from (a + 1) n (omega (arith, low)) (omega (arith, high)) in
      count_append p (f a) (flat_map f (range_with_len (a + 1) n)) ∙ omega (arith, here, later)

  pub count_one_of : (a n : ℕ) → a ≤ s → s < a + n → a + n ≤ bound → count_by p (flat_map f (range_with_len a n)) ≡ count_by p (f s)
  count_one_of a zero low high within = absurd (omega (arith, low, high))
  count_one_of a (suc n) low high within = count_append p (f a) (flat_map f (range_with_len (a + 1) n)) ∙
      elim (eqb_tells a s) [
        | inl h ↦
            let later = none_from (a + 1) n (omega (arith, h.1)) (omega (arith, within)) in
            let same : count_by p (f a) ≡ count_by p (f s) = ap (λ t. count_by p (f t)) h.1 in omega (arith, same, later)
        | inr h ↦
            let here = elsewhere a (omega (arith, within)) h.1 in
            let ne = h.1 in
            let later = count_one_of (a + 1) n (omega (arith, ne, low)) (omega (arith, high)) (omega (arith, within)) in omega (arith, here, later)
      ]

-- where one passes, the count isn't 0
one_more : (b : Bool) (n : ℕ) → b ≡ true → 0 < cond b 1 0 + n
one_more true n e = omega arith
one_more false n e = let no : false ≡ true = e in cc

pub counted : {X : Type 0} (p : X → Bool) (xs : List X) (x : X) → Contains xs x → p x ≡ true → 0 < count_by p xs
counted p [] x there passes = absurd (let low : there.0 < 0 = there.1 in omega (arith, low))
counted p (y ∷ xs) x (zero, low, at) passes = let e = count_cons p y xs in let one = one_more (p y) (count_by p xs) (ap p at ∙ passes) in omega (arith, e, one)
counted p (y ∷ xs) x (suc k, low, at) passes = let e = count_cons p y xs in let rest = counted p xs x (k, omega (arith, low), at) passes in omega (arith, e, rest)
