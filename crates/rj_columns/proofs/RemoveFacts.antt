-- Lists without the element at a place.
use Rattle.std.proofs.Common.{◌≡◌, ◌≤◌, ℕ, zero, suc, List, [], ◌∷◌, length, map, refl, ap, arith}
use Rattle.std.specs.Prelude.{All}
use Rattle.std.specs.List.{remove}
use Rattle.std.proofs.lemmas.List.Elements.{All-head, All-tail, All-cons}

pub remove-none : {X : Type 0} (xs : List X) (i : ℕ) → length xs ≤ i → remove xs i ≡ xs
remove-none [] zero h = refl
remove-none [] (suc i) h = refl
remove-none (x ∷ xs) zero h = absurd (omega arith)
remove-none (x ∷ xs) (suc i) h = ap (λ t. x ∷ t) (remove-none xs i (omega arith))

pub map-removed : {X Y : Type 0} (f : X → Y) (xs : List X) (i : ℕ) → map f (remove xs i) ≡ remove (map f xs) i
map-removed f [] zero = refl
map-removed f [] (suc i) = refl
map-removed f (x ∷ xs) zero = refl
map-removed f (x ∷ xs) (suc i) = ap (λ t. f x ∷ t) (map-removed f xs i)

pub All-removed : {X : Type 0} (P : X → Type 0) (xs : List X) (i : ℕ) → All P xs → All P (remove xs i)
All-removed P [] zero h = h
All-removed P [] (suc i) h = h
All-removed P (x ∷ xs) zero h = All-tail P x xs h
All-removed P (x ∷ xs) (suc i) h = All-cons P x (remove xs i) (All-head P x xs h) (All-removed P xs i (All-tail P x xs h))

-- a list that is no longer than another stays so
pub remove-within : {X Y : Type 0} (xs : List X) (ys : List Y) (i : ℕ) → length ys ≤ length xs → length (remove ys i) ≤ length (remove xs i)
remove-within xs [] zero h = omega arith
remove-within xs [] (suc i) h = omega arith
remove-within [] (y ∷ ys) i h = absurd (omega arith)
remove-within (x ∷ xs) (y ∷ ys) zero h = omega (arith, h)
remove-within (x ∷ xs) (y ∷ ys) (suc i) h = let rest = remove-within xs ys i (omega arith) in omega (arith, rest)
