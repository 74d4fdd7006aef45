-- The merge of inputs whose rows stand in no other input.
use Rattle.std.proofs.Common.{◌≡◌, ◌≤◌, Bool, true, false, List, [], ◌∷◌, ◌++◌, map, Option, None, Some, All, refl, sym, ap, subst, ◌∙◌, arith}
use mathlib.Core.Logic.{⊎_elim}
use Rattle.std.specs.List.{Contains, IsDistinct, flat_map, remove}
use Rattle.std.specs.List.Sorted.{IsPermutation}
use Rattle.std.specs.Ordering.{is_eq, ordering_reverse}
use Rattle.std.specs.declared.cmp.Ordering.{Ordering}
use Rattle.std.specs.declared.cmp.Ordering.TheVariants.{Less, Equal, Greater}
use Rattle.std.proofs.lemmas.Bool.{false≢true}
use Rattle.std.proofs.lemmas.List.{map-append}
use Rattle.std.proofs.lemmas.List.Elements.{All-append, All-contains, All-from_recursion, All-head, All-map, All-nil, All-tail, Contains-append_right, recursion_from_All}
use Rattle.std.proofs.lemmas.List.Folds.{flat_map-map}
use Rattle.std.proofs.lemmas.List.Sorted.{Contains-permutation, IsPermutation-cons, IsPermutation-map, IsPermutation-refl, IsPermutation-remove, IsPermutation-sym, IsPermutation-trans}
use Rattle.std.proofs.lemmas.Map.Keys.{IsDistinct-IsPermutation}
use Rattle.rj_shards.specs.declared.merge.copies.Copies.{Copies}
use Rattle.rj_shards.specs.declared.merge.place.Place.{Place}
use Rattle.rj_shards.specs.declared.merge.place.Place.TheVariants.{Pair, LoneAmongPairs, LoneLeft, LoneRight}
use Rattle.rj_shards.specs.declared.merge.place.Placed.{Placed}
use Rattle.rj_shards.specs.Copies.{AreSingle, Copied, IsWhole, StandsTooOften, copied, copied_rows, copy_of, needed, single, times}
use Rattle.rj_shards.specs.Places.{place_order, place_total}
use Rattle.rj_shards.specs.Wholes.{HasPlace, HasTwice, IsMerge, IsMergeOf, RisesFrom}
use Rattle.rj_shards.proofs.CopyFacts.{All-of, Found, MadeOf, below_untied, first_in, found, is_at, made_of, mapped_in, none_in, stands, tied, times_here, times_moved, times_none, times_past}
use Rattle.rj_shards.proofs.PassFacts.{often_among}
use Rattle.rj_shards.proofs.PlaceFacts.{same_place}
use Rattle.rj_shards.proofs.WholeFacts.{above_all, first_or_later}

turned_tie : (o : Ordering) → is_eq (ordering_reverse o) ≡ is_eq o
turned_tie Less = refl
turned_tie Equal = refl
turned_tie Greater = refl

needed_single : (place : Place) → needed single place ≡ 1
needed_single (Pair left right) = refl
needed_single (LoneAmongPairs left) = refl
needed_single (LoneLeft left) = refl
needed_single (LoneRight right) = refl

module _ {T : Type 0} where
  -- ---- rows of which no two have one place

  -- two rows of one place
  abbrev same_at : Placed T → Placed T → Bool
  same_at x y = is_eq (place_order x.place y.place)

  abbrev AreDistinct : List (Placed T) → Type 0
  AreDistinct rows = IsDistinct same_at rows

  flips : (x y : Placed T) → same_at x y ≡ same_at y x
  flips x y = ap is_eq (place_total.antisymm x.place y.place) ∙ turned_tie (place_order y.place x.place)

  -- the first row has another place than a later one
  first_apart : (x : Placed T) (rows : List (Placed T)) → AreDistinct (x ∷ rows) → (y : Placed T) → Contains rows y → same_at x y ≡ false
  unfolding IsDistinct
  first_apart x rows d y c = All-contains (λ z. same_at x z ≡ false) rows y (All-from_recursion (λ z. same_at x z ≡ false) rows d.0) c

  later_distinct : (x : Placed T) (rows : List (Placed T)) → AreDistinct (x ∷ rows) → AreDistinct rows
  unfolding IsDistinct
  later_distinct x rows d = d.1

  distinct_more : (x : Placed T) (rows : List (Placed T)) → ((y : Placed T) → Contains rows y → same_at x y ≡ false) → AreDistinct rows → AreDistinct (x ∷ rows)
  unfolding IsDistinct
  distinct_more x rows apart d = (recursion_from_All (λ z. same_at x z ≡ false) rows (All-of (λ z. same_at x z ≡ false) rows apart), d)

  not_later : (x : Placed T) (rows : List (Placed T)) → AreDistinct (x ∷ rows) → (y : Placed T) → Contains rows y → x.place ≡ y.place → ⊥
  not_later x rows d y c e = false≢true (sym (first_apart x rows d y c) ∙ tied x.place y.place e)

  -- rows of one place are one
  only_at : (rows : List (Placed T)) → AreDistinct rows → (x y : Placed T) → Contains rows x → Contains rows y → x.place ≡ y.place → x ≡ y
  only_at [] d x y h k e = absurd (none_in x h)
  only_at (z ∷ rows) d x y h k e = ⊎_elim
      (λ first. ⊎_elim (λ second. sym first ∙ second)
      (λ later. absurd (not_later z rows d y later (ap (λ (r : Placed T). r.place) first ∙ e)))
      (first_or_later z rows y k))
      (λ later. ⊎_elim (λ first. absurd (not_later z rows d x later (ap (λ (r : Placed T). r.place) first ∙ sym e)))
      (λ both. only_at rows (later_distinct z rows d) x y later both e)
      (first_or_later z rows y k))
      (first_or_later z rows x h)

  -- with the same members they are the same in another order
  permuted : (xs ys : List (Placed T)) → AreDistinct xs → AreDistinct ys → ((z : Placed T) → Contains xs z → Contains ys z) → ((z : Placed T) → Contains ys z → Contains xs z) → IsPermutation xs ys
  permuted [] [] d e to back = IsPermutation-refl []
  permuted [] (y ∷ ys) d e to back = absurd (none_in y (back y (first_in y ys)))
  permuted (x ∷ xs) ys d e to back =
      let at = to x (first_in x xs) in
      let rest = remove ys at.0 in
      let taken : IsPermutation ys (x ∷ rest) = IsPermutation-remove ys at.0 x at.1 (sym at.2) in
      let there : IsPermutation (x ∷ rest) ys = IsPermutation-sym ys (x ∷ rest) taken in
      let apart : AreDistinct (x ∷ rest) = IsDistinct-IsPermutation same_at flips ys (x ∷ rest) taken e in
      IsPermutation-trans (x ∷ xs) (x ∷ rest) ys
      (IsPermutation-cons x xs rest (permuted xs rest (later_distinct x xs d) (later_distinct x rest apart)
      (λ z c. ⊎_elim (λ first. absurd (not_later x xs d z c (ap (λ (r : Placed T). r.place) first))) (λ later. later)
      (first_or_later x rest z (Contains-permutation ys (x ∷ rest) z taken (to z (Contains-append_right (x ∷ []) xs z c)))))
      (λ z c. ⊎_elim (λ first. absurd (not_later x rest apart z c (ap (λ (r : Placed T). r.place) first))) (λ later. later)
      (first_or_later x xs z (back z (Contains-permutation (x ∷ rest) ys z there (Contains-append_right (x ∷ []) rest z c)))))))
      there

  rises_distinct : (before : Option Place) (rows : List (Placed T)) → RisesFrom before rows → AreDistinct rows
  unfolding IsDistinct
  rises_distinct before [] h = tt
  rises_distinct before (row ∷ rows) h =
      distinct_more row rows (λ y c. below_untied row.place y.place (above_all row.place rows y h.1 c)) (rises_distinct (Some row.place) rows h.1)

  -- ---- rows that have to stand once

  abbrev row_of : Copied T → Placed T
  row_of c = c.row

  abbrev AreOnce : List (Copied T) → Type 0
  AreOnce all = All (λ c. c.needed ≡ 1) all

  distinct_of : (all : List (Copied T)) → AreOnce all → ((place : Place) → StandsTooOften all place → ⊥) → AreDistinct (map row_of all)
  unfolding IsDistinct
  distinct_of [] once within = tt
  distinct_of (c ∷ all) once within =
      distinct_more c.row (map row_of all) (λ y h. apart y (made_of row_of all y h) (same_at c.row y) refl)
      (distinct_of all (All-tail (λ (d : Copied T). d.needed ≡ 1) c all once) (λ place w. within place (often_among (c ∷ []) all place w)))
    where
      apart : (y : Placed T) → MadeOf row_of all y → (b : Bool) → same_at c.row y ≡ b → same_at c.row y ≡ false
      apart y m false e = e
      apart y m true e =
          let at : is_at c.row.place m.from ≡ true = subst (λ (r : Placed T). is_eq (place_order c.row.place r.place) ≡ true) (sym m.is) e in
          let some = stands c.row.place all m.from m.member at in
          let more = times_here c.row.place c all (tied c.row.place c.row.place refl) in
          let one : c.needed ≡ 1 = All-head (λ (d : Copied T). d.needed ≡ 1) c all once in
          absurd (within c.row.place (c, first_in c all, refl, omega (arith, some, more, one)))

  at_most : (all : List (Copied T)) → AreDistinct (map row_of all) → (place : Place) → times place all ≤ 1
  at_most [] d place = omega arith
  at_most (c ∷ all) d place = by_test (at_most all (later_distinct c.row (map row_of all) d) place) (is_at place c) refl
    where
      by_test : times place all ≤ 1 → (b : Bool) → is_at place c ≡ b → times place (c ∷ all) ≤ 1
      by_test later false e = let past = times_past place c all e in omega (arith, later, past)
      by_test later true e =
          let own : place ≡ c.row.place = same_place place c.row.place e in
          let none = times_none place all (All-of (λ x. is_at place x ≡ false) all
          (λ x h. subst (λ p. is_eq (place_order p x.row.place) ≡ false) (sym own) (first_apart c.row (map row_of all) d x.row (mapped_in row_of all x h)))) in
          let here = times_here place c all e in
          omega (arith, none, here)

  -- each stands once
  stands_once : (all : List (Copied T)) → AreDistinct (map row_of all) → (c : Copied T) → Contains all c → times c.row.place all ≡ 1
  stands_once all d c h =
      let most = at_most all d c.row.place in
      let some = stands c.row.place all c h (tied c.row.place c.row.place refl) in
      omega (arith, most, some)

  all_once : (all : List (Copied T)) (rows : List (Placed T)) → AreOnce all → IsMergeOf all rows → IsPermutation (map row_of all) rows
  all_once all rows once m =
      let distinct = distinct_of all once m.within in
      permuted (map row_of all) rows distinct (rises_distinct None rows m.rises)
      (λ z c. to z (made_of row_of all z c) distinct)
      (λ z c. (All-contains (λ (r : Placed T). Contains (map row_of all) r × IsWhole all r.place) rows z m.among c).0)
    where
      to : (z : Placed T) → MadeOf row_of all z → AreDistinct (map row_of all) → Contains rows z
      to z made d =
          let one : made.from.needed ≡ 1 = All-contains (λ (c : Copied T). c.needed ≡ 1) all made.from once made.member in
          let has : HasPlace rows made.from.row.place = m.each made.from.row.place (made.from, made.member, refl, stands_once all d made.from made.member ∙ sym one) in
          let among = (All-contains (λ (r : Placed T). Contains (map row_of all) r × IsWhole all r.place) rows has.0 m.among has.1).0 in
          subst (Contains rows) (only_at (map row_of all) d has.0 made.from.row among (mapped_in row_of all made.from made.member) has.2 ∙ made.is) has.1

  merge_once : (all : List (Copied T)) (rows : List (Placed T)) → AreOnce all → IsPermutation (map row_of all) rows → RisesFrom None rows → IsMergeOf all rows
  merge_once all rows once p rises =
      let back = IsPermutation-sym (map row_of all) rows p in
      let distinct : AreDistinct (map row_of all) = IsDistinct-IsPermutation same_at flips rows (map row_of all) back (rises_distinct None rows rises) in
      record {
        rises = rises;
        among = All-of (λ row. Contains (map row_of all) row × IsWhole all row.place) rows
            (λ row h. let c = Contains-permutation rows (map row_of all) row back h in (c, whole row (made_of row_of all row c) distinct));
        each = λ place w. (w.0.row, Contains-permutation (map row_of all) rows w.0.row p (mapped_in row_of all w.0 w.1), w.2);
        within = λ place w.
            let most = at_most all distinct place in
            let one : w.0.needed ≡ 1 = All-contains (λ (c : Copied T). c.needed ≡ 1) all w.0 once w.1 in
            let more = w.3 in
            omega (arith, most, one, more);
      }
    where
      whole : (row : Placed T) → MadeOf row_of all row → AreDistinct (map row_of all) → IsWhole all row.place
      whole row made d =
          let one : made.from.needed ≡ 1 = All-contains (λ (c : Copied T). c.needed ≡ 1) all made.from once made.member in
          let place : made.from.row.place ≡ row.place = ap (λ (r : Placed T). r.place) made.is in
          (made.from, made.member, place, subst (λ q. times q all ≡ 1) place (stands_once all d made.from made.member) ∙ sym one)

  -- a place that stands more often than once is that of two rows
  twice : (all : List (Copied T)) (place : Place) → AreOnce all → StandsTooOften all place → HasTwice (map row_of all) place
  twice all place once w =
      let c = w.0 in
      let rest = remove all w.1.0 in
      let taken : IsPermutation all (c ∷ rest) = IsPermutation-remove all w.1.0 c w.1.1 (sym w.1.2) in
      let moved = times_moved place all (c ∷ rest) taken in
      let here = times_here place c rest (tied place c.row.place (sym w.2)) in
      let one : c.needed ≡ 1 = All-contains (λ (d : Copied T). d.needed ≡ 1) all c once w.1 in
      let more = w.3 in
      two c rest taken w.2 (found place rest (omega (arith, moved, here, one, more)))
    where
      two : (c : Copied T) (rest : List (Copied T)) → IsPermutation all (c ∷ rest) → c.row.place ≡ place → Found place rest → HasTwice (map row_of all) place
      two c rest taken is f =
          let d = f.copy in
          let others = remove rest f.member.0 in
          record {
            first = c.row;
            second = d.row;
            rest = map row_of others;
            among = IsPermutation-map row_of all (c ∷ d ∷ others) (IsPermutation-trans all (c ∷ rest) (c ∷ d ∷ others) taken
                (IsPermutation-cons c rest (d ∷ others) (IsPermutation-remove rest f.member.0 d f.member.1 (sym f.member.2))));
            first_place = is;
            second_place = sym f.at;
          }

  -- ---- inputs whose rows stand in no other one

  once_each : (copies : Copies) (rows : List (Placed T)) → copies ≡ single → AreOnce (copied copies rows)
  once_each copies rows e = All-map (λ (c : Copied T). c.needed ≡ 1) (copy_of copies) rows
      (All-of (λ (row : Placed T). needed copies row.place ≡ 1) rows (λ row h. subst (λ k. needed k row.place ≡ 1) (sym e) (needed_single row.place)))

  once : (inputs : List (Copies × List (Placed T))) → AreSingle inputs → AreOnce (copied_rows inputs)
  once [] h = All-nil (λ (c : Copied T). c.needed ≡ 1)
  once (i ∷ inputs) h = All-append (λ (c : Copied T). c.needed ≡ 1) (copied i.0 i.1) (copied_rows inputs)
      (once_each i.0 i.1 (All-head (λ (j : Copies × List (Placed T)). j.0 ≡ single) i inputs h)) (once inputs (All-tail (λ (j : Copies × List (Placed T)). j.0 ≡ single) i inputs h))

  rows_back : (copies : Copies) (rows : List (Placed T)) → map row_of (copied copies rows) ≡ rows
  rows_back copies [] = refl
  rows_back copies (row ∷ rows) = ap (λ l. row ∷ l) (rows_back copies rows)

  all_rows : (inputs : List (Copies × List (Placed T))) → map row_of (copied_rows inputs) ≡ flat_map (λ i. i.1) inputs
  all_rows [] = refl
  all_rows (i ∷ inputs) = map-append row_of (copied i.0 i.1) (copied_rows inputs) ∙ (λ t. rows_back i.0 i.1 t ++ all_rows inputs t)

  lists_rows : (inputs : List (Copies × List (Placed T))) → flat_map (λ (l : List (Placed T)). l) (map (λ (i : Copies × List (Placed T)). i.1) inputs) ≡ map row_of (copied_rows inputs)
  lists_rows inputs = flat_map-map (λ (l : List (Placed T)). l) (λ (i : Copies × List (Placed T)). i.1) inputs ∙ sym (all_rows inputs)

  pub single_all : (inputs : List (Copies × List (Placed T))) (rows : List (Placed T)) → AreSingle inputs → IsMergeOf (copied_rows inputs) rows → IsMerge (map (λ i. i.1) inputs) rows
  single_all inputs rows h m = record {
    all = subst (λ l. IsPermutation l rows) (sym (lists_rows inputs)) (all_once (copied_rows inputs) rows (once inputs h) m);
    rises = m.rises;
  }

  pub single_merge : (inputs : List (Copies × List (Placed T))) (rows : List (Placed T)) → AreSingle inputs → IsMerge (map (λ i. i.1) inputs) rows → IsMergeOf (copied_rows inputs) rows
  single_merge inputs rows h m = merge_once (copied_rows inputs) rows (once inputs h) (subst (λ l. IsPermutation l rows) (lists_rows inputs) m.all) m.rises

  pub single_twice : (inputs : List (Copies × List (Placed T))) (place : Place) → AreSingle inputs → StandsTooOften (copied_rows inputs) place → HasTwice (flat_map (λ i. i.1) inputs) place
  single_twice inputs place h w = subst (λ l. HasTwice l place) (all_rows inputs) (twice (copied_rows inputs) place (once inputs h) w)
