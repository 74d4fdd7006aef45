-- A merge is a merge still where its rows are numbered otherwise, by numbers that rise.
use Rattle.std.proofs.Common.{◌≡◌, ℕ, inl, inr, List, [], ◌∷◌, map, None, Some, refl, ap, sym, subst, ◌∙◌, arith}
use Rattle.std.specs.List.{Contains, count_by, flat_map}
use Rattle.std.specs.declared.cmp.Ordering.TheVariants.{Less, Equal, Greater}
use Rattle.std.specs.Ordering.{is_eq, nat_cmp, ordering_then}
use Rattle.std.proofs.lemmas.Bool.{cases_order}
use Rattle.std.proofs.lemmas.Bool.Decides.{nat_tests}
use Rattle.std.proofs.lemmas.List.Elements.{All-map, All-weaker}
use Rattle.std.proofs.lemmas.List.Folds.{flat_map-map}
use Rattle.rj_shards.specs.Copies.{Copied, IsWhole, StandsTooOften, copied, copied_rows, copy_of, needed, times}
use Rattle.rj_shards.specs.declared.merge.copies.Copies.{Copies}
use Rattle.rj_shards.specs.declared.merge.place.Place.{Place}
use Rattle.rj_shards.specs.declared.merge.place.Place.TheVariants.{Pair, LoneAmongPairs, LoneLeft, LoneRight}
use Rattle.rj_shards.specs.declared.merge.place.Placed.{Placed}
use Rattle.rj_shards.specs.Places.{place_order}
use Rattle.rj_shards.specs.Wholes.{HasPlace, IsMergeOf, RisesFrom}
use Rattle.rj_shards.proofs.Counted.{count_map}
use Rattle.rj_shards.proofs.Together.{Contains-map, Contains-map_back, map_flat, map_map}
use Rattle.rj_shards.specs.Renumbered.{Rises, all_renumbered, inputs_renumbered, renumbered, renumbered_place}

-- numbers that rise compare as those that they stand for
compared : (f : ℕ → ℕ) → Rises f → (a b : ℕ) → nat_cmp (f a) (f b) ≡ nat_cmp a b
compared f up a b = elim (cases_order a b) [
  | inl same ↦ (let both : f a ≡ f b = ap f same in grind (arith, nat_tests))
  | inr (inl low) ↦ (let lower = up a b low in grind (arith, nat_tests))
  | inr (inr high) ↦ (let higher = up b a high in grind (arith, nat_tests))
]

module _ (left right : ℕ → ℕ) (left_up : Rises left) (right_up : Rises right) where
  -- and so do places
  pub same_order : (p q : Place) → place_order (renumbered_place left right p) (renumbered_place left right q) ≡ place_order p q
  same_order (Pair i j) (Pair a b) = λ t. ordering_then (compared left left_up i a t) (compared right right_up j b t)
  same_order (Pair i j) (LoneAmongPairs a) = λ t. ordering_then (compared left left_up i a t) Less
  same_order (Pair i j) (LoneLeft a) = refl
  same_order (Pair i j) (LoneRight b) = refl
  same_order (LoneAmongPairs i) (Pair a b) = λ t. ordering_then (compared left left_up i a t) Greater
  same_order (LoneAmongPairs i) (LoneAmongPairs a) = λ t. ordering_then (compared left left_up i a t) Equal
  same_order (LoneAmongPairs i) (LoneLeft a) = refl
  same_order (LoneAmongPairs i) (LoneRight b) = refl
  same_order (LoneLeft i) (Pair a b) = refl
  same_order (LoneLeft i) (LoneAmongPairs a) = refl
  same_order (LoneLeft i) (LoneLeft a) = λ t. ordering_then (compared left left_up i a t) Equal
  same_order (LoneLeft i) (LoneRight b) = refl
  same_order (LoneRight j) (Pair a b) = refl
  same_order (LoneRight j) (LoneAmongPairs a) = refl
  same_order (LoneRight j) (LoneLeft a) = refl
  same_order (LoneRight j) (LoneRight b) = λ t. ordering_then (compared right right_up j b t) Equal

  pub order_kept : (p q : Place) → place_order p q ≡ Less → place_order (renumbered_place left right p) (renumbered_place left right q) ≡ Less
  order_kept p q h = same_order p q ∙ h

  needed_kept : (copies : Copies) (p : Place) → needed copies (renumbered_place left right p) ≡ needed copies p
  needed_kept copies (Pair i j) = refl
  needed_kept copies (LoneAmongPairs i) = refl
  needed_kept copies (LoneLeft i) = refl
  needed_kept copies (LoneRight j) = refl

  module _ {T : Type 0} where
    rises_behind : (before : Place) (rows : List (Placed T)) → RisesFrom (Some before) rows → RisesFrom (Some (renumbered_place left right before)) (all_renumbered left right rows)
    rises_behind before [] h = tt
    rises_behind before (row ∷ rows) h = (order_kept before row.place h.0, rises_behind row.place rows h.1)

    rises_kept : (rows : List (Placed T)) → RisesFrom None rows → RisesFrom None (all_renumbered left right rows)
    rises_kept [] h = tt
    rises_kept (row ∷ rows) h = (tt, rises_behind row.place rows h.1)

    -- a row has to stand as often
    abbrev pub again : Copied T → Copied T
    again c = record { row = renumbered left right c.row; needed = c.needed }

    one_again : (copies : Copies) (row : Placed T) → copy_of copies (renumbered left right row) ≡ again (copy_of copies row)
    one_again copies row = λ t. record { row = renumbered left right row; needed = needed_kept copies row.place t }

    rows_again : (copies : Copies) (rows : List (Placed T)) → copied copies (all_renumbered left right rows) ≡ map again (copied copies rows)
    rows_again copies rows =
        map_map (copy_of copies) (renumbered left right) rows ∙ ((λ t. map (λ row. one_again copies row t) rows) ∙ sym (map_map again (copy_of copies) rows))

    pub all_again : (inputs : List (Copies × List (Placed T))) → copied_rows (inputs_renumbered left right inputs) ≡ map again (copied_rows inputs)
    all_again inputs =
        flat_map-map (λ (i : Copies × List (Placed T)). copied i.0 i.1) (λ i. (i.0, all_renumbered left right i.1)) inputs
        ∙ ((λ t. flat_map (λ i. rows_again i.0 i.1 t) inputs) ∙ sym (map_flat again (λ i. copied i.0 i.1) inputs))

    module _ (all : List (Copied T)) where
      times_again : (p : Place) → times (renumbered_place left right p) (map again all) ≡ times p all
      times_again p = count_map (λ c. is_eq (place_order (renumbered_place left right p) c.row.place)) again all ∙ (λ t. count_by (λ c. is_eq (same_order p c.row.place t)) all)

      whole_again : (p : Place) → IsWhole all p → IsWhole (map again all) (renumbered_place left right p)
      whole_again p w = (again w.0, Contains-map again all w.0 w.1, ap (renumbered_place left right) w.2, times_again p ∙ w.3)

      shown_again : (row : Placed T) → Contains (map (λ c. c.row) all) row → Contains (map (λ c. c.row) (map again all)) (renumbered left right row)
      shown_again row h =
          subst (λ rows. Contains rows (renumbered left right row)) (map_map (renumbered left right) (λ (c : Copied T). c.row) all ∙ sym (map_map (λ (c : Copied T). c.row) again all))
          (Contains-map (renumbered left right) (map (λ c. c.row) all) row h)

      module _ (rows : List (Placed T)) (m : IsMergeOf all rows) where
        each_again : (place : Place) → IsWhole (map again all) place → HasPlace (all_renumbered left right rows) place
        each_again place w =
            let o = Contains-map_back again all w.0 w.1 in
            let at : renumbered_place left right o.0.row.place ≡ place = ap (λ (c : Copied T). c.row.place) o.2 ∙ w.2 in
            let often = sym (times_again o.0.row.place) ∙ (ap (λ p. times p (map again all)) at ∙ (w.3 ∙ sym (ap (λ (c : Copied T). c.needed) o.2))) in
            let has = m.each o.0.row.place (o.0, o.1, refl, often) in
            (renumbered left right has.0, Contains-map (renumbered left right) rows has.0 has.1, ap (renumbered_place left right) has.2 ∙ at)

        within_again : (place : Place) → StandsTooOften (map again all) place → ⊥
        within_again place w =
            let o = Contains-map_back again all w.0 w.1 in
            let at : renumbered_place left right o.0.row.place ≡ place = ap (λ (c : Copied T). c.row.place) o.2 ∙ w.2 in
            let often : times o.0.row.place all ≡ times place (map again all) = sym (times_again o.0.row.place) ∙ ap (λ p. times p (map again all)) at in
            let needs : o.0.needed ≡ w.0.needed = ap (λ (c : Copied T). c.needed) o.2 in
            let more = w.3 in
            m.within o.0.row.place (o.0, o.1, refl, omega (arith, often, needs, more))

        all_kept : IsMergeOf (map again all) (all_renumbered left right rows)
        all_kept = record {
          rises = rises_kept rows m.rises;
          among = All-map (λ row. Contains (map (λ c. c.row) (map again all)) row × IsWhole (map again all) row.place) (renumbered left right) rows
              (All-weaker (λ row. Contains (map (λ c. c.row) all) row × IsWhole all row.place)
              (λ row. Contains (map (λ c. c.row) (map again all)) (renumbered left right row) × IsWhole (map again all) (renumbered_place left right row.place))
              (λ row h. (shown_again row h.0, whole_again row.place h.1)) rows m.among);
          each = each_again;
          within = within_again;
        }

    pub merge_kept : (inputs : List (Copies × List (Placed T))) (rows : List (Placed T)) → IsMergeOf (copied_rows inputs) rows
        → IsMergeOf (copied_rows (inputs_renumbered left right inputs)) (all_renumbered left right rows)
    merge_kept inputs rows m = subst (λ all. IsMergeOf all (all_renumbered left right rows)) (sym (all_again inputs)) (all_kept (copied_rows inputs) rows m)
