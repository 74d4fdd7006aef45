-- In rows that rise, and in whatever has the same rows, no place stands twice.
use Rattle.std.proofs.Common.{◌≡◌, Bool, true, false, List, [], ◌∷◌, refl, ap, sym, ◌∙◌}
use Rattle.std.specs.Cmp.{tied_itself}
use Rattle.std.specs.List.{AllByRecursion, IsDistinct}
use Rattle.std.specs.List.Sorted.{IsPermutation}
use Rattle.std.specs.Ordering.{is_eq, ordering_reverse}
use Rattle.std.specs.declared.cmp.Ordering.{Ordering}
use Rattle.std.specs.declared.cmp.Ordering.TheVariants.{Less, Equal, Greater}
use Rattle.std.proofs.lemmas.Bool.{false≢true}
use Rattle.std.proofs.lemmas.List.Sorted.{IsPermutation-sym, IsPermutation-trans}
use Rattle.std.proofs.lemmas.Map.Keys.{IsDistinct-IsPermutation}
use Rattle.rj_shards.specs.declared.merge.place.Place.{Place}
use Rattle.rj_shards.specs.declared.merge.place.Placed.{Placed}
use Rattle.rj_shards.specs.Places.{place_order, place_total}
use Rattle.rj_shards.specs.Wholes.{HasTwice}
use Rattle.rj_shards.proofs.Rising.{IsBelow, Rise}

turned_tie : (o : Ordering) → is_eq (ordering_reverse o) ≡ is_eq o
turned_tie Less = refl
turned_tie Equal = refl
turned_tie Greater = refl

module _ {T : Type 0} where
  -- two rows of one place
  abbrev same_place : Placed T → Placed T → Bool
  same_place x y = is_eq (place_order x.place y.place)

  flips : (x y : Placed T) → same_place x y ≡ same_place y x
  flips x y = ap is_eq (place_total.antisymm x.place y.place) ∙ turned_tie (place_order y.place x.place)

  none_below : (x : Placed T) (rows : List (Placed T)) → IsBelow (λ (row : Placed T). row.place) x.place rows → AllByRecursion (λ y. same_place x y ≡ false) rows
  none_below x [] h = tt
  none_below x (y ∷ rows) h = (ap is_eq h.0, none_below x rows h.1)

  distinct : (rows : List (Placed T)) → Rise (λ (row : Placed T). row.place) rows → IsDistinct same_place rows
  unfolding IsDistinct
  distinct [] h = tt
  distinct (x ∷ rows) h = (none_below x rows h.0, distinct rows h.1)

  first_two : (x y : Placed T) (rows : List (Placed T)) → IsDistinct same_place (x ∷ y ∷ rows) → same_place x y ≡ false
  unfolding IsDistinct
  first_two x y rows h = h.0.0

  pub not_twice : (all rows : List (Placed T)) → IsPermutation all rows → Rise (λ (row : Placed T). row.place) rows → (place : Place) → HasTwice all place → ⊥
  not_twice all rows p rise place twice =
      let moved = IsPermutation-trans rows all (twice.first ∷ twice.second ∷ twice.rest) (IsPermutation-sym all rows p) twice.among in
      let apart = first_two twice.first twice.second twice.rest (IsDistinct-IsPermutation same_place flips rows (twice.first ∷ twice.second ∷ twice.rest) moved (distinct rows rise)) in
      let one : same_place twice.first twice.second ≡ true = (λ t. is_eq (place_order (twice.first_place t) (twice.second_place t))) ∙ ap is_eq (tied_itself place_total place) in
      false≢true (sym apart ∙ one)
