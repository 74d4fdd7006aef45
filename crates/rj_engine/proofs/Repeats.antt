-- Numbers that stand more than once.
use Rattle.std.proofs.Common.{◌≡◌, ◌<◌, ◌≤◌, ◌==◌, ◌+◌, ◌∙◌, ℕ, zero, suc, refl, Bool, cond, List, [], ◌∷◌, length, map, get_or, set, take, arith, inl, inr, sym, ap, get_or-set_same, get_or-set_other}
use Rattle.std.specs.List.{All}
use Rattle.std.proofs.lemmas.Bool.{cases_eq, eq-eqb, ne_eqb}
use Rattle.std.proofs.lemmas.List.{get_or_read}
use Rattle.std.proofs.lemmas.List.Sums.{count_by_more_no, count_by_more_yes, sum_by-cons}
use Rattle.rj_engine.specs.Expected.{AreDistinct}
use Rattle.rj_engine.specs.Violations.{times}

-- one more number is counted once more, and no other one is
pub counted-more : (numbers counts : List ℕ) (i x v k : ℕ) → i < length numbers → x ≡ get_or numbers i 0 → x < length counts → v ≡ get_or counts x v
    → get_or counts k 0 ≡ times k (take i numbers) → get_or (set counts x (v + 1)) k 0 ≡ times k (take (i + 1) numbers)
counted-more numbers counts i x v k lt is low read so = elim (cases_eq k x) [
  | inl e ↦
      let here : get_or (set counts x (v + 1)) k 0 ≡ v + 1 = rw e (get_or-set_same counts x (v + 1) 0 low) in
      let was : v ≡ get_or counts x 0 = get_or_read counts x v low read 0 in
      let yes = count_by_more_yes (λ (y : ℕ). y == k) numbers i 0 lt (eq-eqb (get_or numbers i 0) k (sym is ∙ sym e)) in
      let old : v ≡ times k (take i numbers) = was ∙ ap (λ (z : ℕ). get_or counts z 0) (sym e) ∙ so in
      here ∙ (ap (λ (z : ℕ). z + 1) old ∙ sym yes)
  | inr n ↦
      let no = count_by_more_no (λ (y : ℕ). y == k) numbers i 0 lt (ne_eqb (get_or numbers i 0) k (λ f. n (sym (is ∙ f)))) in
      get_or-set_other counts x k (v + 1) 0 n ∙ (so ∙ sym no)
]

-- the first number of a list, and the others
times-first : (x k : ℕ) (numbers : List ℕ) → x ≡ k → times k (x ∷ numbers) ≡ 1 + times k numbers
times-first x k numbers e = sum_by-cons (λ (y : ℕ). cond (y == k) 1 0) x numbers ∙ ap (λ (b : Bool). cond b 1 0 + times k numbers) (eq-eqb x k e)

times-rest : (x k : ℕ) (numbers : List ℕ) → times k numbers ≤ times k (x ∷ numbers)
times-rest x k numbers = omega (arith, sum_by-cons (λ (y : ℕ). cond (y == k) 1 0) x numbers)

-- a number of the list is counted
once : (numbers : List ℕ) (k i d : ℕ) → i < length numbers → get_or numbers i d ≡ k → 1 ≤ times k numbers
once [] k i d lt e = absurd (omega arith)
once (x ∷ numbers) k zero d lt e = omega (arith, times-first x k numbers e)
once (x ∷ numbers) k (suc i) d lt e = let rest = once numbers k i d (omega arith) e in omega (arith, rest, times-rest x k numbers)

-- one that stands at two places is counted twice
twice : (numbers : List ℕ) (k i j d : ℕ) → i < j → j < length numbers → get_or numbers i d ≡ k → get_or numbers j d ≡ k → 2 ≤ times k numbers
twice [] k i j d low lt e f = absurd (omega arith)
twice (x ∷ numbers) k i zero d low lt e f = absurd (omega arith)
twice (x ∷ numbers) k zero (suc j) d low lt e f = let rest = once numbers k j d (omega arith) f in omega (arith, rest, times-first x k numbers e)
twice (x ∷ numbers) k (suc i) (suc j) d low lt e f = let rest = twice numbers k i j d (omega arith) (omega arith) e f in omega (arith, rest, times-rest x k numbers)

-- numbers below a count, each of which is there at most once, are distinct
pub at-most-once : (numbers : List ℕ) (count : ℕ) → All (λ n. n < count) numbers → ((k : ℕ) → k < count → times k numbers ≤ 1) → AreDistinct numbers
at-most-once numbers count below few i j d low lt same =
    let two = twice numbers (get_or numbers j d) i j d low lt same refl in
    let one = few (get_or numbers j d) (below j d lt) in
    absurd (omega (arith, one, two))

-- the numbers on one side of pairs are below what these are
pub below-of : {X : Type 0} (f : X → ℕ) (xs : List X) (count : ℕ) → All (λ x. f x < count) xs → All (λ n. n < count) (map f xs)
below-of f [] count below k d lt = absurd (omega arith)
below-of f (x ∷ xs) count below zero d lt = below 0 x (omega arith)
below-of f (x ∷ xs) count below (suc k) d lt = below-of f xs count (λ j e low. below (suc j) e (omega arith)) k d (omega arith)
