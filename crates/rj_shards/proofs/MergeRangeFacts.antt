-- What is read of a range, step by step.
use Rattle.std.proofs.Common.{◌≡◌, true, false, List, [], ◌∷◌, Option, None, Some, refl, sym, ap, subst}
use Rattle.rj_shards.specs.declared.merge.place.Place.{Place}
use Rattle.rj_shards.specs.Places.{IsAbove, place_total}
use Rattle.rj_shards.specs.declared.merge.options.MergeOptions.{MergeOptions}
use Rattle.rj_shards.specs.declared.merge.place.Placed.{Placed}
use Rattle.rj_shards.specs.declared.merge.refused.MergeRefused.{MergeRefused}
use Rattle.rj_shards.specs.MergeRanges.{fault_before, is_before, is_from, reading_within, rows_before}
use Rattle.rj_shards.specs.Sources.{Reading}

module _ {T : Type 0} (how : MergeOptions) (old : Reading T) where
  -- no row
  pub within-none : (fault : Option MergeRefused) → old.rows ≡ [] → old.fault ≡ fault → ((reading_within how old).rows ≡ []) × ((reading_within how old).fault ≡ fault)
  unfolding rows_before fault_before
  within-none fault e f = rw (e, f) (refl, refl)

  -- a first row past the end
  pub within-end : (row : Placed T) (rows : List (Placed T)) → old.rows ≡ row ∷ rows → is_before how.to row.place ≡ false
      → ((reading_within how old).rows ≡ []) × ((reading_within how old).fault ≡ None)
  unfolding rows_before fault_before
  within-end row rows e b = rw (e, b) (refl, refl)

  module _ (new : Reading T) (row : Placed T) (e : old.rows ≡ row ∷ new.rows) (f : old.fault ≡ new.fault) (b : is_before how.to row.place ≡ true) where
    -- a first row within
    pub within-row : is_from how.from row.place ≡ true → ((reading_within how old).rows ≡ row ∷ (reading_within how new).rows) × ((reading_within how old).fault ≡ (reading_within how new).fault)
    unfolding rows_before fault_before
    within-row t = rw (e, f, b, t) (refl, refl)

    -- and one below
    pub within-below : is_from how.from row.place ≡ false → ((reading_within how old).rows ≡ (reading_within how new).rows) × ((reading_within how old).fault ≡ (reading_within how new).fault)
    unfolding rows_before fault_before
    within-below t = rw (e, f, b, t) (refl, refl)

-- what is above a place above another one is above that one
pub above_again : (last : Option Place) (next p : Place) (new : Option Place) → IsAbove last next → new ≡ Some next → IsAbove new p → IsAbove last p
above_again None next p new up is h = tt
above_again (Some before) next p new up is h = place_total.trans before next p up (subst (λ o. IsAbove o p) is h)

-- a test of a range that is the same range
pub same_before : (now how : MergeOptions) (place : Place) → now ≡ how → is_before now.to place ≡ is_before how.to place
same_before now how place same = ap (λ (h : MergeOptions). is_before h.to place) same

pub same_from : (now how : MergeOptions) (place : Place) → now ≡ how → is_from now.from place ≡ is_from how.from place
same_from now how place same = ap (λ (h : MergeOptions). is_from h.from place) same

pub same_within : {T : Type 0} (now how : MergeOptions) (r : Reading T) → now ≡ how → reading_within how r ≡ reading_within now r
same_within now how r same = ap (λ (h : MergeOptions). reading_within h r) (sym same)
