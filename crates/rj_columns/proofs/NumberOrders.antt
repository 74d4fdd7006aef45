-- The order of numbers of any two scales.
use Rattle.std.proofs.Common.{◌≡◌, ℕ, ℤ, true, ◌+◌, ◌-◌, ◌≤◌, refl, sym, ap, ◌∙◌, arith}
use Rattle.std.specs.Prelude.{◌↔◌}
use Rattle.std.specs.declared.cmp.Ordering.{Ordering}
use Rattle.std.specs.declared.cmp.Ordering.TheVariants.{Equal}
use Rattle.std.specs.Ordering.{int_cmp, int_eq}
use Rattle.std.specs.Cmp.{Equal-is}
use Rattle.std.proofs.lemmas.Bool.Decides.{Decides-int_eq}
use Rattle.rj_columns.specs.Numbers.{Number, finer, whole_number}
use Rattle.rj_columns.specs.NumberOrder.{ordered, are_same}
use Rattle.rj_columns.proofs.Shifts.{finer-finer, finer-cmp, finer-injective, finer-none}

-- numbers are one value exactly where their order says so
pub ordered-equal : (x y : Number) → (ordered x y ≡ Equal) ↔ (are_same x y ≡ true)
unfolding ordered are_same
ordered-equal x y = let o = Equal-is (int_cmp (finer x.units y.scale) (finer y.units x.scale)) in (o.1, o.0)

-- in a scale that both have or may have, units decide
ordered-in_scale : (x y : Number) (s : ℕ) → x.scale ≤ s → y.scale ≤ s → int_cmp (finer x.units (s - x.scale)) (finer y.units (s - y.scale)) ≡ ordered x y
unfolding ordered
ordered-in_scale x y s hx hy =
    let k = x.scale + y.scale in
    let up : int_cmp (finer (finer x.units (s - x.scale)) k) (finer (finer y.units (s - y.scale)) k) ≡ int_cmp (finer x.units (s - x.scale)) (finer y.units (s - y.scale)) =
    finer-cmp (finer x.units (s - x.scale)) (finer y.units (s - y.scale)) k in
    let down : int_cmp (finer (finer x.units y.scale) s) (finer (finer y.units x.scale) s) ≡ int_cmp (finer x.units y.scale) (finer y.units x.scale) = finer-cmp (finer x.units y.scale) (finer y.units x.scale) s in
    let left : finer (finer x.units (s - x.scale)) k ≡ finer (finer x.units y.scale) s =
    finer-finer x.units (s - x.scale) k ∙ (ap (finer x.units) (omega arith) ∙ sym (finer-finer x.units y.scale s)) in
    let right : finer (finer y.units (s - y.scale)) k ≡ finer (finer y.units x.scale) s =
    finer-finer y.units (s - y.scale) k ∙ (ap (finer y.units) (omega arith) ∙ sym (finer-finer y.units x.scale s)) in
    sym up ∙ (ap (λ a. int_cmp a (finer (finer y.units (s - y.scale)) k)) left ∙ (ap (int_cmp (finer (finer x.units y.scale) s)) right ∙ down))

pub ordered-by : (x y : Number) (s : ℕ) (a b : ℤ) (r : Ordering) → x.scale ≤ s → y.scale ≤ s → a ≡ finer x.units (s - x.scale) → b ≡ finer y.units (s - y.scale) → r ≡ int_cmp a b → r ≡ ordered x y
ordered-by x y s a b r hx hy ea eb e =
    e ∙ (ap (λ m. int_cmp m b) ea ∙ (ap (int_cmp (finer x.units (s - x.scale))) eb ∙ ordered-in_scale x y s hx hy))

-- numbers of one scale compare by their units
pub ordered-units : (x y : Number) → x.scale ≡ y.scale → int_cmp x.units y.units ≡ ordered x y
unfolding ordered
ordered-units x y e = sym (finer-cmp x.units y.units x.scale) ∙ ap (λ s. int_cmp (finer x.units s) (finer y.units x.scale)) e

-- the units in a finer scale are the same value
pub same_as_finer : (x : Number) (s : ℕ) (u : ℤ) → x.scale ≤ s → u ≡ finer x.units (s - x.scale) → are_same x (record { units = u; scale = s }) ≡ true
unfolding are_same
same_as_finer x s u h e =
    (Decides-int_eq (finer x.units s) (finer u x.scale)).1
    (ap (finer x.units) (omega arith) ∙ (sym (finer-finer x.units (s - x.scale) x.scale) ∙ ap (λ a. finer a x.scale) (sym e)))

pub equal-is : (x y : Number) (r : Ordering) → r ≡ ordered x y → (r ≡ Equal) ↔ (are_same x y ≡ true)
equal-is x y r e = (λ h. (ordered-equal x y).0 (sym e ∙ h), λ t. e ∙ (ordered-equal x y).1 t)

-- numbers are one value exactly where their units in one scale are the same
pub same-units : (x y : Number) → are_same x y ≡ true → finer x.units y.scale ≡ finer y.units x.scale
unfolding are_same
same-units x y e = (Decides-int_eq (finer x.units y.scale) (finer y.units x.scale)).0 e

pub same-from : (x y : Number) → finer x.units y.scale ≡ finer y.units x.scale → are_same x y ≡ true
unfolding are_same
same-from x y e = (Decides-int_eq (finer x.units y.scale) (finer y.units x.scale)).1 e

-- to be one value is reflexive, symmetric and transitive
pub are_same-reflexive : (x : Number) → are_same x x ≡ true
are_same-reflexive x = same-from x x refl

pub are_same-symmetric : (x y : Number) → are_same x y ≡ true → are_same y x ≡ true
are_same-symmetric x y e = same-from y x (sym (same-units x y e))

pub swap : (u : ℤ) (j k : ℕ) → finer (finer u j) k ≡ finer (finer u k) j
swap u j k = finer-finer u j k ∙ (ap (finer u) (omega arith) ∙ sym (finer-finer u k j))

pub are_same-transitive : (x y z : Number) → are_same x y ≡ true → are_same y z ≡ true → are_same x z ≡ true
are_same-transitive x y z e f =
    same-from x z (finer-injective (finer x.units z.scale) (finer z.units x.scale) y.scale
    (swap x.units z.scale y.scale
    ∙ (ap (λ v. finer v z.scale) (same-units x y e)
    ∙ (swap y.units x.scale z.scale
    ∙ (ap (λ v. finer v x.scale) (same-units y z f) ∙ swap z.units y.scale x.scale)))))

-- whole numbers compare as they are
pub ordered-whole : (m n : ℤ) → ordered (whole_number m) (whole_number n) ≡ int_cmp m n
ordered-whole m n = sym (ordered-units (whole_number m) (whole_number n) refl)

pub are_same-whole : (m n : ℤ) → are_same (whole_number m) (whole_number n) ≡ int_eq m n
unfolding are_same
are_same-whole m n = rw (finer-none m, finer-none n) refl
