-- Numbers that were drawn, each once.
use Rattle.std.proofs.Common.{◌≡◌, ◌≢◌, ℕ, zero, suc, ◌+◌, ◌<◌, ◌≤◌, cond, eqb, List, [], ◌∷◌, ◌++◌, length, map, get_or, sym, refl, ap, ◌∙◌, arith, eq-eqb, ne_eqb}
use mathlib.Core.Logic.{dite}
use native.Mathlib.Decide.{ℕ_discrete, dec_lt}
use Rattle.std.specs.List.{flat_map, range_with_len, remove, sum_by}
use Rattle.std.specs.List.Sorted.{IsPermutation}
use Rattle.std.proofs.lemmas.List.Concat.{flat_map-cons}
use Rattle.std.proofs.lemmas.List.Sums.{sum_by-cons}
use Rattle.std.proofs.lemmas.List.Sorted.{IsPermutation-refl, IsPermutation-sym, IsPermutation-trans, IsPermutation-cons, IsPermutation-remove, sum_by-IsPermutation}
use Rattle.rj_exchange.specs.Totals.{total}
use Rattle.rj_exchange.specs.Tickets.{EachOnce, times}

total_is_sum : {A : Type 0} (f : A → ℕ) (xs : List A) → total f xs ≡ sum_by f xs
total_is_sum f [] = refl
total_is_sum f (x ∷ xs) = ap (λ n. f x + n) (total_is_sum f xs) ∙ sym (sum_by-cons f x xs)

total_append : {A : Type 0} (f : A → ℕ) (xs ys : List A) → total f (xs ++ ys) ≡ total f xs + total f ys
total_append f [] ys = omega arith
total_append f (x ∷ xs) ys = let r = total_append f xs ys in omega arith

times_shuffled : (x : ℕ) (xs ys : List ℕ) → IsPermutation xs ys → times x ys ≡ times x xs
times_shuffled x xs ys shuffled =
    let one : ℕ → ℕ = λ y. cond (eqb y x) 1 0 in
    total_is_sum one ys ∙ sum_by-IsPermutation one xs ys shuffled ∙ sym (total_is_sum one xs)

same_once : (x : ℕ) (xs : List ℕ) → times x (x ∷ xs) ≡ 1 + times x xs
same_once x xs = ap (λ b. cond b 1 0 + times x xs) (eq-eqb x x refl)

other_not : (x y : ℕ) (ys : List ℕ) → y ≢ x → times x (y ∷ ys) ≡ times x ys
other_not x y ys n = ap (λ b. cond b 1 0 + times x ys) (ne_eqb y x n) ∙ (let z : 0 + times x ys ≡ times x ys = omega arith in z)

-- a number that stands in a list has a place there
place_of : (x : ℕ) (ys : List ℕ) → 0 < times x ys → (i : ℕ) × (i < length ys) × (x ≡ get_or ys i x)
place_of x [] some = absurd (omega arith)
place_of x (y ∷ ys) some = dite (ℕ_discrete y x)
    (λ e. (0, (omega arith), sym e))
    (λ n. let o = other_not x y ys n in let r = place_of x ys (omega arith) in (suc r.0, (let l = r.1 in omega arith), r.2))

-- lists with the same numbers, each as often, are the same but for their order
shuffled_if : (xs ys : List ℕ) → ((x : ℕ) → times x xs ≡ times x ys) → IsPermutation xs ys
shuffled_if [] [] same = IsPermutation-refl []
shuffled_if [] (y ∷ ys) same = absurd (let a = same y in let b = same_once y ys in omega arith)
shuffled_if (x ∷ xs) ys same =
    let p = place_of x ys (let a = same x in let b = same_once x xs in omega arith) in
    let rest : List ℕ = remove ys p.0 in
    let moved : IsPermutation ys (x ∷ rest) = IsPermutation-remove ys p.0 x p.1 p.2 in
    let left : (z : ℕ) → times z xs ≡ times z rest = λ z. (let a = same z in let b = times_shuffled z ys (x ∷ rest) moved in omega arith) in
    IsPermutation-trans (x ∷ xs) (x ∷ rest) ys (IsPermutation-cons x xs rest (shuffled_if xs rest left)) (IsPermutation-sym ys (x ∷ rest) moved)

-- how often x stands among the n numbers from a on
range_below : (x a n : ℕ) → x < a → times x (range_with_len a n) ≡ 0
range_below x a zero lt = refl
range_below x a (suc n) lt = other_not x a _ (λ e. omega arith) ∙ range_below x (a + 1) n (omega arith)

range_within : (x a n : ℕ) → a ≤ x → x < a + n → times x (range_with_len a n) ≡ 1
range_within x a zero le lt = absurd (omega arith)
range_within x a (suc n) le lt = dite (ℕ_discrete a x)
    (λ e. let s : times x (range_with_len a (suc n)) ≡ 1 + times x (range_with_len (a + 1) n) = ap (λ b. cond b 1 0 + times x (range_with_len (a + 1) n)) (eq-eqb a x e) in
    let z = range_below x (a + 1) n (omega arith) in omega arith)
    (λ ne. other_not x a _ ne ∙ range_within x (a + 1) n (omega arith) (omega arith))

range_past : (x a n : ℕ) → a + n ≤ x → times x (range_with_len a n) ≡ 0
range_past x a zero le = refl
range_past x a (suc n) le = other_not x a _ (λ e. omega arith) ∙ range_past x (a + 1) n (omega arith)

times_joined : {S : Type 0} (f : S → List ℕ) (x : ℕ) (ss : List S) → total (times x) (map f ss) ≡ times x (flat_map f ss)
times_joined f x [] = refl
times_joined f x (s ∷ ss) =
    let a = times_joined f x ss in let b = ap (times x) (flat_map-cons f s ss) in
    let c = total_append (λ y. cond (eqb y x) 1 0) (f s) (flat_map f ss) in omega arith

-- lists that together have the numbers below m, each once, have them in some order
pub drawn_shuffled : {S : Type 0} (f : S → List ℕ) (m : ℕ) (ss : List S) → EachOnce m (map f ss) → IsPermutation (range_with_len 0 m) (flat_map f ss)
drawn_shuffled f m ss once = shuffled_if (range_with_len 0 m) (flat_map f ss) (λ x.
    let e = once x in let j = times_joined f x ss in dite (dec_lt x m)
    (λ lt. let a = e.0 lt in let b = range_within x 0 m (omega arith) (omega arith) in omega arith)
    (λ nl. let a = e.1 (omega arith) in let b = range_past x 0 m (omega arith) in omega arith))
