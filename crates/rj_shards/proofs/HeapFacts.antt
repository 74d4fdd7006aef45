-- Inputs on the heap, and what is known of them.
use Rattle.std.proofs.Common.{◌≡◌, ◌∙◌, ℕ, Bool, true, List, [], ◌∷◌, map, Option, Box, Global, All, sym, ap, subst}
use mathlib.Core.List.{map-map}
use Rattle.std.specs.Box.{box_value}
use Rattle.std.proofs.lemmas.List.Elements.{All-cons, All-head, All-nil, All-tail}
use Rattle.rj_shards.specs.declared.merge.copies.Copies.{Copies}
use Rattle.rj_shards.specs.declared.merge.input.TextSource.{TextSource}
use Rattle.rj_shards.specs.Inputs.{boxed_copies, boxed_number, boxed_reading, boxed_tells, input_reading, input_tells, own_copies, own_number}
use Rattle.rj_shards.specs.Sources.{Reading}

-- what holds of all that a list is made into
All-of_map : {X Y : Type 0} (P : X → Type 0) (f : Y → X) (ys : List Y) → All P (map f ys) → All (λ y. P (f y)) ys
All-of_map P f [] all = All-nil (λ y. P (f y))
All-of_map P f (y ∷ ys) all = All-cons (λ y. P (f y)) y ys (All-head P (f y) (map f ys) all) (All-of_map P f ys (All-tail P (f y) (map f ys) all))

module _ {R : Type 0} (known : R → Option (List ℕ)) (boxed : List (Box (TextSource R) Global)) (sources : List (TextSource R)) (same : map box_value boxed ≡ sources) where
  pub copies-boxed : (all : List Copies) → map own_copies sources ≡ all → map boxed_copies boxed ≡ all
  copies-boxed all e = sym (map-map own_copies box_value boxed) ∙ (ap (map own_copies) same ∙ e)

  pub readings-boxed : (all : List (Reading (List (List ℕ)))) → all ≡ map (input_reading known) sources → all ≡ map (boxed_reading known) boxed
  readings-boxed all e = e ∙ (ap (map (input_reading known)) (sym same) ∙ map-map (input_reading known) box_value boxed)

  pub numbers-boxed : (numbers : ℕ → Bool) → All (λ s. numbers (own_number s) ≡ true) sources → All (λ b. numbers (boxed_number b) ≡ true) boxed
  numbers-boxed numbers all = All-of_map (λ s. numbers (own_number s) ≡ true) box_value boxed (subst (All (λ s. numbers (own_number s) ≡ true)) (sym same) all)

  pub tells-boxed : All (input_tells known) sources → All (boxed_tells known) boxed
  tells-boxed all = All-of_map (input_tells known) box_value boxed (subst (All (input_tells known)) (sym same) all)
