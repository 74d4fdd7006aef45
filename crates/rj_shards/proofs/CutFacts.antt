-- Rows that rise, cut at a place.
use Rattle.std.proofs.Common.{◌≡◌, Bool, true, false, cond, List, [], ◌∷◌, ◌++◌, Option, None, Some, All, refl, sym, ap, subst, ◌∙◌}
use Rattle.std.specs.Prelude.{not, filter}
use Rattle.std.proofs.lemmas.Bool.{false≢true}
use Rattle.std.proofs.lemmas.List.Elements.{All-cons, All-nil}
use Rattle.std.specs.Ordering.{is_eq, is_lt, ordering_reverse}
use Rattle.std.specs.declared.cmp.Ordering.{Ordering}
use Rattle.std.specs.declared.cmp.Ordering.TheVariants.{Less, Equal, Greater}
use Rattle.rj_shards.specs.declared.merge.place.Place.{Place}
use Rattle.rj_shards.specs.declared.merge.place.Placed.{Placed}
use Rattle.rj_shards.specs.declared.merge.refused.MergeRefused.{MergeRefused}
use Rattle.rj_shards.specs.Places.{IsAbove, place_order, place_total}
use Rattle.rj_shards.specs.MergeRanges.{fault_before, is_from, rows_before}
use Rattle.rj_shards.specs.Wholes.{RisesFrom}
use Rattle.rj_shards.proofs.PlaceFacts.{is_less, same_place}

-- ---- places

not_below_if : (o : Ordering) → (o ≡ Less → ⊥) → is_lt o ≡ false
not_below_if Less h = absurd (h refl)
not_below_if Equal h = refl
not_below_if Greater h = refl

not_less : (o : Ordering) → is_lt o ≡ false → o ≡ Less → ⊥
not_less o h e = false≢true (sym h ∙ ap is_lt e)

from_if : (p first : Place) → (place_order p first ≡ Less → ⊥) → is_from (Some first) p ≡ true
from_if p first h = ap not (not_below_if (place_order p first) h)

not_before : (p first : Place) → is_from (Some first) p ≡ true → place_order p first ≡ Less → ⊥
not_before p first h e = false≢true (sym (ap (λ o. not (is_lt o)) e) ∙ h)

-- what is above a place of a range isn't below the range
from_up : (first : Option Place) (p q : Place) → is_from first p ≡ true → place_order p q ≡ Less → is_from first q ≡ true
from_up None p q h up = refl
from_up (Some first) p q h up = from_if q first (λ e. not_before p first h (place_total.trans p q first up e))

-- nor is what isn't below a cut of it
above_cut : (first : Option Place) (cut p : Place) → IsAbove first cut → is_lt (place_order p cut) ≡ false → is_from first p ≡ true
above_cut None cut p up h = refl
above_cut (Some first) cut p up h = from_if p first (λ e. not_less (place_order p cut) h (place_total.trans p first cut e up))

-- a place below a cut is below one that isn't
less_through : (p cut q : Place) → place_order p cut ≡ Less → is_lt (place_order q cut) ≡ false → place_order p q ≡ Less
less_through p cut q low high = by_order (place_order p q) refl
  where
    by_order : (o : Ordering) → place_order p q ≡ o → place_order p q ≡ Less
    by_order Less e = e
    by_order Equal e =
        let same : p ≡ q = same_place p q (ap is_eq e) in
        absurd (not_less (place_order q cut) high (subst (λ r. place_order r cut ≡ Less) same low))
    by_order Greater e = absurd (not_less (place_order q cut) high (place_total.trans q p cut (place_total.antisymm q p ∙ ap ordering_reverse e) low))

-- and so it is where the other is of a range from the cut on
pub below_from : (p cut q : Place) → is_lt (place_order p cut) ≡ true → is_from (Some cut) q ≡ true → place_order p q ≡ Less
below_from p cut q low high = less_through p cut q (is_less (place_order p cut) low) (not_below_if (place_order q cut) (not_before q cut high))

module _ {T : Type 0} where
  abbrev from_rows : Option Place → List (Placed T) → List (Placed T)
  from_rows first rows = filter (λ row. is_from first row.place) rows

  -- ---- no end

  pub whole_before : (rows : List (Placed T)) → rows_before None rows ≡ rows
  unfolding rows_before
  whole_before [] = refl
  whole_before (row ∷ rows) = ap (λ l. row ∷ l) (whole_before rows)

  pub whole_fault : (rows : List (Placed T)) (fault : Option MergeRefused) → fault_before None rows fault ≡ fault
  unfolding fault_before
  whole_fault [] fault = refl
  whole_fault (row ∷ rows) fault = whole_fault rows fault

  -- ---- a cut

  all_from : (first : Option Place) (before : Place) (rows : List (Placed T)) → is_from first before ≡ true → RisesFrom (Some before) rows → from_rows first rows ≡ rows
  all_from first before [] h rises = refl
  all_from first before (row ∷ rows) h rises =
      let here = from_up first before row.place h rises.0 in
      let rest = all_from first row.place rows here rises.1 in
      λ t. cond (here t) (row ∷ rest t) (rest t)

  -- rows from a place on are those before a cut, and those from the cut on
  pub cut_rows : (first : Option Place) (cut : Place) (before : Option Place) (rows : List (Placed T)) → IsAbove first cut → RisesFrom before rows
      → from_rows first rows ≡ from_rows first (rows_before (Some cut) rows) ++ from_rows (Some cut) rows
  unfolding rows_before
  cut_rows first cut before [] up rises = refl
  cut_rows first cut before (row ∷ rows) up rises = by_cut (cut_rows first cut (Some row.place) rows up rises.1) (is_lt (place_order row.place cut)) refl
    where
      by_first : from_rows first rows ≡ from_rows first (rows_before (Some cut) rows) ++ from_rows (Some cut) rows → (b : Bool) → cond b (row ∷ from_rows first rows) (from_rows first rows)
          ≡ cond b (row ∷ from_rows first (rows_before (Some cut) rows)) (from_rows first (rows_before (Some cut) rows)) ++ from_rows (Some cut) rows
      by_first later true = ap (λ l. row ∷ l) later
      by_first later false = later

      by_cut : from_rows first rows ≡ from_rows first (rows_before (Some cut) rows) ++ from_rows (Some cut) rows → (b : Bool) → is_lt (place_order row.place cut) ≡ b
          → from_rows first (row ∷ rows) ≡ from_rows first (rows_before (Some cut) (row ∷ rows)) ++ from_rows (Some cut) (row ∷ rows)
      by_cut later true e = rw e (by_first later (is_from first row.place))
      by_cut later false e =
          let here = above_cut first cut row.place up e in
          let whole = all_from first row.place rows here rises.1 in
          let high : is_from (Some cut) row.place ≡ true = ap not e in
          let behind = all_from (Some cut) row.place rows high rises.1 in
          (λ t. cond (here t) (row ∷ whole t) (whole t)) ∙ rw e (ap (λ l. row ∷ l) (sym behind))

  pub below_cut : (cut : Place) (rows : List (Placed T)) → All (λ row. is_lt (place_order row.place cut) ≡ true) (rows_before (Some cut) rows)
  unfolding rows_before
  below_cut cut [] = All-nil (λ (row : Placed T). is_lt (place_order row.place cut) ≡ true)
  below_cut cut (row ∷ rows) = by_test (below_cut cut rows) (is_lt (place_order row.place cut)) refl
    where
      by_test : All (λ r. is_lt (place_order r.place cut) ≡ true) (rows_before (Some cut) rows) → (b : Bool) → is_lt (place_order row.place cut) ≡ b → All (λ r. is_lt (place_order r.place cut) ≡ true) (rows_before (Some cut) (row ∷ rows))
      by_test rest true e = rw e (All-cons (λ (r : Placed T). is_lt (place_order r.place cut) ≡ true) row (rows_before (Some cut) rows) e rest)
      by_test rest false e = rw e (All-nil (λ (r : Placed T). is_lt (place_order r.place cut) ≡ true))
