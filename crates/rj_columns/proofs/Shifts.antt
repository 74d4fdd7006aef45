-- Whole numbers times powers of ten.
use Rattle.std.proofs.Common.{◌≡◌, ℕ, ℤ, zero, suc, pos, negsuc, neg_ℤ, ◌+◌, ◌*◌, ◌^◌, ◌<◌, refl, sym, ap, ◌∙◌, arith}
use Rattle.std.specs.Prelude.{◌*ℤ◌, ◌<ℤ◌}
use Rattle.std.specs.declared.cmp.Ordering.{Ordering}
use Rattle.std.specs.declared.cmp.Ordering.TheVariants.{Less, Equal, Greater}
use Rattle.std.specs.Ordering.{MatchOrdering, int_cmp, is_eq}
use Rattle.std.proofs.lemmas.Bool.Decides.{Decides-int_eq}
use Rattle.std.specs.Cmp.{int_cmp_is, int_ranks}
use Rattle.std.proofs.Math.Nat.{mul_assoc, mul-lt-mul_of_pos_right}
use Rattle.std.proofs.lemmas.Nat.{pow-add}
use Rattle.std.proofs.lemmas.Int.{ints}
use Rattle.rj_columns.specs.Numbers.{finer}

pub ten_pow_pos : (k : ℕ) → 0 < 10 ^ k
ten_pow_pos zero = omega arith
ten_pow_pos (suc k) = omega (arith, ten_pow_pos k, pow-add 10 k 1)

pub neg-times : (n k : ℕ) → neg_ℤ (pos n) *ℤ pos k ≡ neg_ℤ (pos (n * k))
neg-times zero k = let e : zero * k ≡ zero = omega arith in ap pos e ∙ sym (ap (λ n. neg_ℤ (pos n)) e)
neg-times (suc n) k = refl

-- one factor and then another
pub times-times : (a : ℤ) (j k : ℕ) → (a *ℤ pos j) *ℤ pos k ≡ a *ℤ pos (j * k)
times-times (pos m) j k = ap pos (mul_assoc m j k)
times-times (negsuc m) j k = neg-times (suc m * j) k ∙ ap (λ n. neg_ℤ (pos n)) (mul_assoc (suc m) j k)

pub times-one : (a : ℤ) → a *ℤ pos 1 ≡ a
times-one (pos m) = omega (arith, ints)
times-one (negsuc m) = omega (arith, ints)

-- a positive factor keeps the order
times-lt : (a b : ℤ) (k : ℕ) → 0 < k → a <ℤ b → (a *ℤ pos k) <ℤ (b *ℤ pos k)
times-lt (pos m) (pos n) k p h = let l : m * k < n * k = mul-lt-mul_of_pos_right (omega (arith, ints)) p in omega (arith, ints)
times-lt (pos m) (negsuc n) k p h = absurd (omega (arith, ints))
times-lt (negsuc m) (pos n) k p h = let l : 0 < suc m * k = omega (arith, mul-lt-mul_of_pos_right {m = 0} {n = suc m} (omega arith) p) in omega (arith, ints)
times-lt (negsuc m) (negsuc n) k p h = let l : suc n * k < suc m * k = mul-lt-mul_of_pos_right (omega (arith, ints)) p in omega (arith, ints)

ranked : (a b : ℤ) (k : ℕ) → 0 < k → (r : Ordering) → MatchOrdering r (a <ℤ b) (a ≡ b) (b <ℤ a) → MatchOrdering r ((a *ℤ pos k) <ℤ (b *ℤ pos k)) ((a *ℤ pos k) ≡ (b *ℤ pos k)) ((b *ℤ pos k) <ℤ (a *ℤ pos k))
ranked a b k p Less h = times-lt a b k p h
ranked a b k p Equal h = ap (λ x. x *ℤ pos k) h
ranked a b k p Greater h = times-lt b a k p h

pub times-cmp : (a b : ℤ) (k : ℕ) → 0 < k → int_cmp a b ≡ int_cmp (a *ℤ pos k) (b *ℤ pos k)
times-cmp a b k p = int_cmp_is (a *ℤ pos k) (b *ℤ pos k) (int_cmp a b) (ranked a b k p (int_cmp a b) (int_ranks a b))

-- finer and then finer still
pub finer-finer : (a : ℤ) (j k : ℕ) → finer (finer a j) k ≡ finer a (j + k)
finer-finer a j k = times-times a (10 ^ j) (10 ^ k) ∙ ap (λ n. a *ℤ pos n) (sym (pow-add 10 j k))

pub finer-cmp : (a b : ℤ) (k : ℕ) → int_cmp (finer a k) (finer b k) ≡ int_cmp a b
finer-cmp a b k = sym (times-cmp a b (10 ^ k) (ten_pow_pos k))

pub finer-none : (a : ℤ) → finer a 0 ≡ a
finer-none a = times-one a

pub finer-injective : (a b : ℤ) (k : ℕ) → finer a k ≡ finer b k → a ≡ b
finer-injective a b k e =
    (Decides-int_eq a b).0 (ap is_eq (sym (finer-cmp a b k)) ∙ (Decides-int_eq (finer a k) (finer b k)).1 e)
