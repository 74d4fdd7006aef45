-- A value has one least form.
use Rattle.std.proofs.Common.{◌≡◌, ℕ, zero, suc, ℤ, pos, negsuc, true, false, cond, ◌+◌, ◌-◌, ◌<◌, refl, sym, ap, subst, ◌∙◌, arith}
use Rattle.std.specs.Prelude.{◌↔◌, ◌*ℤ◌, ◌+ℤ◌}
use Rattle.std.specs.Int.{cast_unsigned, w64}
use Rattle.std.specs.Int.RustNames.{int_div, int_rem}
use Rattle.std.proofs.lemmas.Int.{ints, quot-rem}
use Rattle.std.proofs.lemmas.Bool.Decides.{Decides-int_eq}
use Rattle.rj_columns.specs.Numbers.{Number, finer, whole_number}
use Rattle.rj_columns.specs.NumberOrder.{are_same}
use Rattle.rj_columns.specs.LeastNumbers.{ends_with_zero, hash_of, hash_of_least, without_zeros, least_of, IsLeast}
use Rattle.rj_columns.proofs.Shifts.{finer-finer, finer-none}
use Rattle.rj_columns.proofs.NumberOrders.{are_same-reflexive, are_same-symmetric, are_same-transitive, same-from, same-units, swap}

-- ten times a number, and back
tenfold-rem : (u : ℤ) → int_rem (u *ℤ pos 10) (pos 10) ≡ pos 0
tenfold-rem (pos m) = ap pos (omega arith)
tenfold-rem (negsuc m) = omega (arith, ints)

tenfold-div : (u : ℤ) → int_div (u *ℤ pos 10) (pos 10) ≡ u
tenfold-div (pos m) = ap pos (omega arith)
tenfold-div (negsuc m) = omega (arith, ints)

pub tenfold-ends : (u : ℤ) → ends_with_zero (u *ℤ pos 10) ≡ true
tenfold-ends u = (Decides-int_eq (int_rem (u *ℤ pos 10) (pos 10)) (pos 0)).1 (tenfold-rem u)

-- a number whose units end with a zero is ten times its tenth
pub tenth : (u : ℤ) → ends_with_zero u ≡ true → finer (int_div u (pos 10)) 1 ≡ u
tenth u e =
    let none : int_rem u (pos 10) ≡ pos 0 = (Decides-int_eq (int_rem u (pos 10)) (pos 0)).0 e in
    let whole : int_div u (pos 10) *ℤ pos 10 +ℤ int_rem u (pos 10) ≡ u = quot-rem u (pos 10) in
    omega (arith, ints)

pub zero-dropped : (u : ℤ) (t : ℕ) → ends_with_zero u ≡ true → without_zeros u (suc t) ≡ without_zeros (int_div u (pos 10)) t
unfolding without_zeros
zero-dropped u t e = rw e refl

pub zero-kept : (u : ℤ) (t : ℕ) → ends_with_zero u ≡ false → without_zeros u (suc t) ≡ record { units = u; scale = suc t }
unfolding without_zeros
zero-kept u t e = rw e refl

-- more digits after the point change nothing
pub without_zeros-finer : (u : ℤ) (t k : ℕ) → without_zeros (finer u k) (t + k) ≡ without_zeros u t
without_zeros-finer u t zero = let P : ℕ → Number = λ n. without_zeros u n in ap (λ v. without_zeros v (t + 0)) (finer-none u) ∙ ap P (omega arith)
without_zeros-finer u t (suc k) =
    let more : finer (finer u k) 1 ≡ finer u (suc k) = finer-finer u k 1 ∙ ap (finer u) (omega arith) in
    let e : ends_with_zero (finer u (suc k)) ≡ true = ap ends_with_zero (sym more) ∙ tenfold-ends (finer u k) in
    let d : int_div (finer u (suc k)) (pos 10) ≡ finer u k = ap (λ v. int_div v (pos 10)) (sym more) ∙ tenfold-div (finer u k) in
    let n : t + suc k ≡ suc (t + k) = omega arith in
    ap (without_zeros (finer u (suc k))) n
    ∙ (zero-dropped (finer u (suc k)) (t + k) e
    ∙ (ap (λ v. without_zeros v (t + k)) d ∙ without_zeros-finer u t k))

-- one value, one least form
pub least-same : (x y : Number) → are_same x y ≡ true → least_of x ≡ least_of y
least-same x y e =
    let n : y.scale + x.scale ≡ x.scale + y.scale = omega arith in
    sym (without_zeros-finer x.units x.scale y.scale)
    ∙ (ap (λ v. without_zeros v (x.scale + y.scale)) (same-units x y e)
    ∙ (ap (without_zeros (finer y.units x.scale)) (sym n) ∙ without_zeros-finer y.units y.scale x.scale))

-- the least form is the same value
without_zeros-same : (u : ℤ) (t : ℕ) → are_same (record { units = u; scale = t }) (without_zeros u t) ≡ true
unfolding without_zeros
without_zeros-same u zero = are_same-reflexive (record { units = u; scale = 0 })
without_zeros-same u (suc t) =
    elim (ends_with_zero u) as (λ b. ends_with_zero u ≡ b → are_same (record { units = u; scale = suc t }) (cond b (without_zeros (int_div u (pos 10)) t) (record { units = u; scale = suc t })) ≡ true) [
      | true ↦ λ e.
          let q = int_div u (pos 10) in
          let l = without_zeros q t in
          let up : finer q 1 ≡ u = tenth u e in
          let n : t + 1 ≡ suc t = omega arith in
          same-from (record { units = u; scale = suc t }) l
          (ap (λ v. finer v l.scale) (sym up)
          ∙ (swap q 1 l.scale
          ∙ (ap (λ v. finer v 1) (same-units (record { units = q; scale = t }) l (without_zeros-same q t))
          ∙ (finer-finer l.units t 1 ∙ ap (finer l.units) n))))
      | false ↦ λ e. are_same-reflexive (record { units = u; scale = suc t })
    ] refl

pub least-value : (x : Number) → are_same x (least_of x) ≡ true
least-value x = without_zeros-same x.units x.scale

-- numbers are one value exactly where they have one least form
pub same-least : (x y : Number) → (are_same x y ≡ true) ↔ (least_of x ≡ least_of y)
same-least x y =
    let P : Number → Type 0 = λ l. are_same x l ≡ true in
    (least-same x y, λ e. are_same-transitive x (least_of y) y (subst P e (least-value x)) (are_same-symmetric y (least_of y) (least-value y)))

-- no zero is left
without_zeros-least : (u : ℤ) (t : ℕ) → IsLeast (without_zeros u t)
unfolding without_zeros
without_zeros-least u zero = λ p. absurd (omega arith)
without_zeros-least u (suc t) =
    elim (ends_with_zero u) as (λ b. ends_with_zero u ≡ b → IsLeast (cond b (without_zeros (int_div u (pos 10)) t) (record { units = u; scale = suc t })))
    [ true ↦ λ e. without_zeros-least (int_div u (pos 10)) t | false ↦ λ e p. e ] refl

pub least-least : (x : Number) → IsLeast (least_of x)
least-least x = without_zeros-least x.units x.scale

-- the steps of the loop that drops zeros, and its ends
pub zeros-go_on : (u v : ℤ) (s : ℕ) (l : Number) → 0 < s → true ≡ ends_with_zero u → v ≡ int_div u (pos 10) → without_zeros u s ≡ l → without_zeros v (s - 1) ≡ l
zeros-go_on u v s l p z d e =
    let n : suc (s - 1) ≡ s = omega arith in
    ap (λ w. without_zeros w (s - 1)) d ∙ (sym (zero-dropped u (s - 1) (sym z)) ∙ (ap (without_zeros u) n ∙ e))

pub zeros-end : (u : ℤ) (s : ℕ) (l : Number) → 0 < s → false ≡ ends_with_zero u → without_zeros u s ≡ l → record { units = u; scale = s } ≡ l
zeros-end u s l p z e =
    let n : suc (s - 1) ≡ s = omega arith in
    let P : ℕ → Type 0 = λ t. without_zeros u t ≡ record { units = u; scale = t } in
    sym (subst P n (zero-kept u (s - 1) (sym z))) ∙ e

pub zeros-none : (u : ℤ) (s : ℕ) (l : Number) → s ≡ 0 → without_zeros u s ≡ l → record { units = u; scale = s } ≡ l
unfolding without_zeros
zeros-none u s l n e =
    let P : ℕ → Type 0 = λ t. without_zeros u t ≡ record { units = u; scale = t } in
    sym (subst P (sym n) refl) ∙ e

-- the hash law: one value, one hash, whatever the scales
pub hash-same : (x y : Number) → are_same x y ≡ true → hash_of x ≡ hash_of y
hash-same x y e = ap hash_of_least (least-same x y e)

-- the hash of a whole number is the number modulo 2^64
pub hash-whole : (v : ℤ) → hash_of (whole_number v) ≡ cast_unsigned w64 v
unfolding without_zeros
hash-whole v = refl
