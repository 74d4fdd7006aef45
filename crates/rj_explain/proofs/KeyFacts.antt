-- What a function gives of the items of a list, one by one.
use Rattle.std.proofs.Common.{◌≡◌, ◌∙◌, ◌++◌, ◌∷◌, [], ◌+◌, ◌<◌, List, ℕ, Option, None, Some, ap, get_or, length, refl, sym, take}
use Rattle.std.specs.List.{filter_map}
use Rattle.std.specs.Option.{option_to_list}
use Rattle.std.proofs.lemmas.List.{take_more}
use Rattle.std.proofs.lemmas.List.Elements.{filter_map-append}

-- of one item
one-item : {A B : Type 0} (f : A → Option B) (x : A) (o : Option B) → f x ≡ o → filter_map f (x ∷ []) ≡ option_to_list o
one-item f x None e = rw e refl
one-item f x (Some y) e = rw e refl

pub filter_map-more : {A B : Type 0} (f : A → Option B) (xs : List A) (i : ℕ) (d : A) (o : Option B) → i < length xs → f (get_or xs i d) ≡ o
    → filter_map f (take i xs) ++ option_to_list o ≡ filter_map f (take (i + 1) xs)
filter_map-more f xs i d o low e =
    let x = get_or xs i d in
    let all = ap (filter_map f) (take_more xs i d low) ∙ filter_map-append f (take i xs) (x ∷ []) in
    sym (all ∙ ap (λ ys. filter_map f (take i xs) ++ ys) (one-item f x o e))
