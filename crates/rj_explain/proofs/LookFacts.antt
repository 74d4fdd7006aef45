-- The first item of a list that passes a test, item by item.
use Rattle.std.proofs.Common.{◌≡◌, ◌∙◌, ◌+◌, ◌≤◌, ◌||◌, ◌∷◌, [], List, ℕ, zero, suc, Bool, Option, None, Some, true, false, ap, add-one, arith, cond, drop, length, refl, sym}
use Rattle.std.specs.Prelude.{slice_get}
use Rattle.std.specs.List.{find, list_any}

some-is : {A : Type 0} (x y : A) → Some x ≡ Some y → x ≡ y
some-is x y e = cc

none-some : {A : Type 0} (x : A) (o : Option A) → o ≡ None → o ≡ Some x → ⊥
none-some x o p q = cc

-- what is left of a list, by its item at a place
left-is : {A : Type 0} (xs : List A) (i : ℕ) (x : A) → slice_get xs i ≡ Some x → drop i xs ≡ x ∷ drop (suc i) xs
left-is [] zero x e = absurd (none-some x None refl e)
left-is [] (suc i) x e = absurd (none-some x None refl e)
left-is (y ∷ ys) zero x e = ap (λ z. z ∷ ys) (some-is y x e)
left-is (y ∷ ys) (suc i) x e = left-is ys i x e

left-at : {A : Type 0} (xs : List A) (i : ℕ) (x : A) → slice_get xs i ≡ Some x → drop i xs ≡ x ∷ drop (i + 1) xs
left-at xs i x e = rw (add-one i) (left-is xs i x e)

left-none : {A : Type 0} (xs : List A) (i : ℕ) → length xs ≤ i → drop i xs ≡ []
left-none [] zero low = refl
left-none [] (suc i) low = refl
left-none (y ∷ ys) zero low = absurd (omega (arith, low))
left-none (y ∷ ys) (suc i) low = left-none ys i (omega (arith, low))

-- the item at hand doesn't pass, or it does, or no item is left
pub find-more : {A : Type 0} (p : A → Bool) (xs : List A) (i : ℕ) (x : A) → slice_get xs i ≡ Some x → p x ≡ false → find p (drop (i + 1) xs) ≡ find p (drop i xs)
find-more p xs i x here other = sym (ap (find p) (left-at xs i x here) ∙ ap (λ (b : Bool). cond b (Some x) (find p (drop (i + 1) xs))) other)

pub find-here : {A : Type 0} (p : A → Bool) (xs : List A) (i : ℕ) (x : A) → slice_get xs i ≡ Some x → p x ≡ true → Some x ≡ find p (drop i xs)
find-here p xs i x here passes = sym (ap (find p) (left-at xs i x here) ∙ ap (λ (b : Bool). cond b (Some x) (find p (drop (i + 1) xs))) passes)

-- the same of whether one passes
pub any-more : {A : Type 0} (p : A → Bool) (xs : List A) (i : ℕ) (x : A) → slice_get xs i ≡ Some x → p x ≡ false → list_any p (drop (i + 1) xs) ≡ list_any p (drop i xs)
any-more p xs i x here other = sym (ap (list_any p) (left-at xs i x here) ∙ ap (λ (b : Bool). b || list_any p (drop (i + 1) xs)) other)

pub any-here : {A : Type 0} (p : A → Bool) (xs : List A) (i : ℕ) (x : A) → slice_get xs i ≡ Some x → p x ≡ true → true ≡ list_any p (drop i xs)
any-here p xs i x here passes = sym (ap (list_any p) (left-at xs i x here) ∙ ap (λ (b : Bool). b || list_any p (drop (i + 1) xs)) passes)
