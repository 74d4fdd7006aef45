-- A list cut at the first element that passes a test.
use Rattle.std.proofs.Common.{◌≡◌, ◌∙◌, ◌+◌, ◌<◌, ◌≤◌, ◌==◌, ◌++◌, ◌∷◌, [], ℕ, Bool, List, true, false, cond}
use Rattle.std.proofs.Common.{length, take, drop, get_or, refl, ap, sym, subst, drop-cons, add-one}
use Rattle.std.specs.Prelude.{All}
use Rattle.std.specs.List.{slice_split, onto_first}
use Rattle.std.specs.Str.Lines.{lines, lines_of_parts, strip_carriage_return}
use Rattle.std.proofs.lemmas.List.{take_all, take-append-drop}
use Rattle.std.proofs.lemmas.List.Splits.{slice_split_at, slice_split_none}

-- a list is what is before an index, the element there, and what follows
pub around : {A : Type 0} (xs : List A) (i : ℕ) (d : A) → i < length xs → xs ≡ take i xs ++ get_or xs i d ∷ drop (i + 1) xs
around {A} xs i d h = sym (take-append-drop i xs) ∙ ap (λ (t : List A). take i xs ++ t) (rw add-one (drop-cons xs i d h))

pub split_at_index : (p : ℕ → Bool) (xs : List ℕ) (i : ℕ) → i < length xs → All (λ b. p b ≡ false) (take i xs) → p (get_or xs i 0) ≡ true → slice_split p xs ≡ take i xs ∷ slice_split p (drop (i + 1) xs)
split_at_index p xs i h none hit = ap (slice_split p) (around xs i 0 h) ∙ slice_split_at p (take i xs) (get_or xs i 0) (drop (i + 1) xs) none hit

pub none_found : (p : ℕ → Bool) (xs : List ℕ) (i : ℕ) → length xs ≤ i → All (λ b. p b ≡ false) (take i xs) → slice_split p xs ≡ xs ∷ []
none_found p xs i h none = slice_split_none p xs (subst (All (λ b. p b ≡ false)) (take_all i xs h) none)

onto_some : (x : ℕ) (parts : List (List ℕ)) → (p : List ℕ) × (ps : List (List ℕ)) × (onto_first x parts ≡ p ∷ ps)
onto_some x [] = (x ∷ [], [], refl)
onto_some x (part ∷ parts) = (x ∷ part, parts, refl)

split_cons : (t : Bool) (x : ℕ) (parts : List (List ℕ)) → (p : List ℕ) × (ps : List (List ℕ)) × (cond t ([] ∷ parts) (onto_first x parts) ≡ p ∷ ps)
split_cons true x parts = ([], parts, refl)
split_cons false x parts = onto_some x parts

-- there is at least one part
pub split_some : (q : ℕ → Bool) (ys : List ℕ) → (p : List ℕ) × (ps : List (List ℕ)) × (slice_split q ys ≡ p ∷ ps)
split_some q [] = ([], [], refl)
split_some q (y ∷ ys) = split_cons (q y) y (slice_split q ys)

-- the first line, where its part ends at a newline
pub lines_more : (xs line more : List ℕ) → slice_split (λ b. b == 10) xs ≡ line ∷ slice_split (λ b. b == 10) more → lines xs ≡ strip_carriage_return line ∷ lines more
lines_more xs line more h = ap lines_of_parts h ∙ by_case (slice_split (λ b. b == 10) more) (split_some (λ b. b == 10) more)
  where
    by_case : (parts : List (List ℕ)) → (p : List ℕ) × (ps : List (List ℕ)) × (parts ≡ p ∷ ps) → lines_of_parts (line ∷ parts) ≡ strip_carriage_return line ∷ lines_of_parts parts
    by_case parts w = ap (λ (t : List (List ℕ)). lines_of_parts (line ∷ t)) w.2 ∙ ap (λ (t : List (List ℕ)). strip_carriage_return line ∷ lines_of_parts t) (sym w.2)
