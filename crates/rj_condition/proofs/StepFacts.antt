-- One more name, one more operand, one more condition.
use Rattle.std.proofs.Common.{◌≡◌, ℕ, ◌+◌, ◌<◌, suc, List, ◌∷◌, Bool, true, false, length, get_or, drop, refl, sym, ap, ◌∙◌, add-one, drop-cons, Some}
use Rattle.std.specs.Prelude.{slice_get}
use Rattle.std.specs.List.{position_from}
use Rattle.std.proofs.lemmas.Option.{get_or_from_slice_get, slice_get_within}

-- what stands at a place, and what follows it
pub drop_get : {A : Type 0} (xs : List A) (i : ℕ) (x : A) → slice_get xs i ≡ Some x → drop i xs ≡ x ∷ drop (i + 1) xs
drop_get xs i x h = rw add-one (drop-cons xs i x (slice_get_within xs i x h) ∙ ap (λ z. z ∷ drop (suc i) xs) (get_or_from_slice_get xs i x x h))

pub place_found : (t : List ℕ → Bool) (xs : List (List ℕ)) (i : ℕ) (x : List ℕ) → slice_get xs i ≡ Some x → t x ≡ true → position_from t i (drop i xs) ≡ Some i
place_found t xs i x h e = rw (drop_get xs i x h, e) refl

pub place_next : (t : List ℕ → Bool) (xs : List (List ℕ)) (i : ℕ) (x : List ℕ) → slice_get xs i ≡ Some x → t x ≡ false → position_from t i (drop i xs) ≡ position_from t (i + 1) (drop (i + 1) xs)
place_next t xs i x h e = rw (drop_get xs i x h, e) refl

pub drop_at : {A : Type 0} (xs : List A) (i : ℕ) (x : A) → i < length xs → x ≡ get_or xs i x → drop i xs ≡ x ∷ drop (i + 1) xs
drop_at xs i x lt is = rw add-one (drop-cons xs i x lt ∙ ap (λ z. z ∷ drop (suc i) xs) (sym is))
