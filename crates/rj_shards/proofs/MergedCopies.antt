-- Rows of members, each with how often it has to stand, are merged to the rows of those that stand as often.
use Rattle.std.proofs.Common.{◌≡◌, ℕ, ◌<◌, List, map, None, refl, ap, sym, subst, ◌∙◌, arith}
use Rattle.std.specs.List.{Contains, count_by}
use Rattle.std.specs.List.Sorted.{IsPermutation}
use Rattle.std.specs.Ordering.{is_eq}
use Rattle.std.proofs.lemmas.List.Elements.{All-contains_itself, All-map, All-weaker}
use Rattle.std.proofs.lemmas.List.Sorted.{All-permutation, Contains-permutation, IsPermutation-sym, sum_by-IsPermutation}
use Rattle.rj_settings.specs.declared.choice.RowOrder.{RowOrder}
use Rattle.rj_engine.specs.declared.joined.JoinedRow.{JoinedRow}
use Rattle.rj_shards.specs.Copies.{AreAlike, Copied, IsWhole, StandsTooOften, times}
use Rattle.rj_shards.specs.Places.{place_order}
use Rattle.rj_shards.specs.Wholes.{HasPlace, IsMergeOf, RisesFrom}
use Rattle.rj_shards.specs.declared.merge.place.Place.{Place}
use Rattle.rj_shards.specs.declared.merge.place.Placed.{Placed}
use Rattle.rj_shards.specs.Rows.{place_of}
use Rattle.rj_shards.proofs.Counted.{count_map, counted, found}
use Rattle.rj_shards.proofs.Needed.{IsNeeded, at_itself, is_at, same_member}
use Rattle.rj_shards.proofs.Together.{Contains-map, Contains-map_back, IsMadeOf}

-- where elements of one place are one, the rows that are made of them are alike
pub alike : {X T : Type 0} (xs : List X) (f : X → Copied T) (all : List (Copied T)) → IsPermutation all (map f xs) → ((x y : X) → (f x).row.place ≡ (f y).row.place → x ≡ y) → AreAlike all
alike xs f all same one c d h i e =
    let a = Contains-map_back f xs c (Contains-permutation all (map f xs) c same h) in
    let b = Contains-map_back f xs d (Contains-permutation all (map f xs) d same i) in
    let is = one a.0 b.0 (ap (λ c. c.row.place) a.2 ∙ (e ∙ sym (ap (λ c. c.row.place) b.2))) in
    sym (ap (λ c. c.row.row) a.2) ∙ (ap (λ x. (f x).row.row) is ∙ ap (λ c. c.row.row) b.2)

module _ {T : Type 0} (order : RowOrder) (row : JoinedRow → T) (needs : JoinedRow → ℕ) where
  -- a member's row at its place
  abbrev pub at_place : JoinedRow → Placed T
  at_place m = record { place = place_of order m; row = row m }

  -- and how often it has to stand
  abbrev pub needed_row : JoinedRow → Copied T
  needed_row m = record { row = at_place m; needed = needs m }

  module _ (members : List JoinedRow) (all : List (Copied T)) (same : IsPermutation all (map needed_row members)) where
    of_member : (c : Copied T) → Contains all c → IsMadeOf needed_row members c
    of_member c h = Contains-map_back needed_row members c (Contains-permutation all (map needed_row members) c same h)

    among_all : (m : JoinedRow) → Contains members m → Contains all (needed_row m)
    among_all m h = Contains-permutation (map needed_row members) all (needed_row m) (IsPermutation-sym all (map needed_row members) same) (Contains-map needed_row members m h)

    times_of : (m : JoinedRow) → times (place_of order m) all ≡ count_by (is_at order m) members
    times_of m =
        sym (sum_by-IsPermutation _ all (map needed_row members) same) ∙ count_map (λ c. is_eq (place_order (place_of order m) c.row.place)) needed_row members

    module _ (whole rows : List JoinedRow) (some : (m : JoinedRow) → 0 < needs m) (need : (m : JoinedRow) → IsNeeded (needs m) (count_by (is_at order m) members) (count_by (is_at order m) whole))
        (ordered : IsPermutation whole rows) where
      abbrev IsAmong : Placed T → Type 0
      IsAmong r = Contains (map (λ c. c.row) all) r × IsWhole all r.place

      is_among : (m : JoinedRow) → Contains whole m → IsAmong (at_place m)
      is_among m h =
          let as_often = (need m).all (counted (is_at order m) whole m h (at_itself order m)) in
          let one = found (is_at order m) members (let least = some m in omega (arith, as_often, least)) in
          let there = among_all m (subst (Contains members) (sym (same_member order m one.at one.passes)) one.there) in
          (Contains-map (λ (c : Copied T). c.row) all (needed_row m) there, (needed_row m, there, refl, times_of m ∙ as_often))

      has_place : (place : Place) → IsWhole all place → HasPlace (map at_place rows) place
      has_place place w =
          let a = of_member w.0 w.1 in
          let is : place_of order a.0 ≡ place = ap (λ (c : Copied T). c.row.place) a.2 ∙ w.2 in
          let as_often : count_by (is_at order a.0) members ≡ needs a.0 = sym (times_of a.0) ∙ (ap (λ p. times p all) is ∙ (w.3 ∙ sym (ap (λ (c : Copied T). c.needed) a.2))) in
          let one = found (is_at order a.0) whole ((need a.0).only as_often) in
          let there = subst (Contains whole) (sym (same_member order a.0 one.at one.passes)) one.there in
          (at_place a.0, Contains-map at_place rows a.0 (Contains-permutation whole rows a.0 ordered there), is)

      not_too_often : (place : Place) → StandsTooOften all place → ⊥
      not_too_often place w =
          let a = of_member w.0 w.1 in
          let is : place_of order a.0 ≡ place = ap (λ (c : Copied T). c.row.place) a.2 ∙ w.2 in
          let is_often : count_by (is_at order a.0) members ≡ times place all = sym (times_of a.0) ∙ ap (λ p. times p all) is in
          let needs_it : needs a.0 ≡ w.0.needed = ap (λ (c : Copied T). c.needed) a.2 in
          let most = (need a.0).most in
          let more = w.3 in
          omega (arith, is_often, needs_it, most, more)

      -- the merge of all rows is the rows of the whole
      pub merged : RisesFrom None (map at_place rows) → IsMergeOf all (map at_place rows)
      merged rise = record {
        rises = rise;
        among = All-map IsAmong at_place rows
            (All-permutation (λ m. IsAmong (at_place m)) whole rows ordered (All-weaker (Contains whole) (λ m. IsAmong (at_place m)) is_among whole (All-contains_itself whole)));
        each = has_place;
        within = not_too_often;
      }
