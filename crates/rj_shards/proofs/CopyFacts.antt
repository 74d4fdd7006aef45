-- How often places stand among rows, and what the merge of rows is: where they are the same in another order, and where some stand
-- above the others.
use Rattle.std.proofs.Common.{◌≡◌, ℕ, ◌+◌, ◌<◌, ◌≤◌, Bool, true, false, cond, List, [], ◌∷◌, ◌++◌, length, map, Option, None, Some, All, refl, sym, ap, subst, ◌∙◌, arith, inl, inr, ◌⊎◌}
use mathlib.Core.Logic.{⊎_elim}
use Rattle.std.specs.Cmp.{tied_itself}
use Rattle.std.specs.List.{Contains, remove}
use Rattle.std.specs.List.Sorted.{IsPermutation}
use Rattle.std.specs.Ordering.{is_eq, ordering_reverse}
use Rattle.std.specs.declared.cmp.Ordering.TheVariants.{Less}
use Rattle.std.proofs.lemmas.List.{map-append}
use Rattle.std.proofs.lemmas.List.Elements.{All-append, All-cons, All-contains, All-contains_itself, All-head, All-map, All-nil, All-tail, All-weaker, Contains-append_cases, Contains-append_left, Contains-append_right}
use Rattle.std.proofs.lemmas.List.Sorted.{Contains-permutation, IsPermutation-map, IsPermutation-remove, IsPermutation-sym, sum_by-IsPermutation}
use Rattle.std.proofs.lemmas.List.Sums.{sum_by-append, sum_by-cons}
use Rattle.rj_shards.specs.declared.merge.place.Place.{Place}
use Rattle.rj_shards.specs.declared.merge.place.Placed.{Placed}
use Rattle.rj_shards.specs.Copies.{Copied, IsWhole, StandsTooOften, times}
use Rattle.rj_shards.specs.Places.{IsAbove, place_order, place_total}
use Rattle.rj_shards.specs.Wholes.{HasPlace, IsMergeOf, RisesFrom}
use Rattle.rj_shards.proofs.PlaceFacts.{same_place}

-- ---- members of lists

pub first_in : {X : Type 0} (x : X) (xs : List X) → Contains (x ∷ xs) x
first_in x xs = (0, omega arith, refl)

pub none_in : {X : Type 0} (x : X) → Contains [] x → ⊥
none_in x c = let l : c.0 < 0 = c.1 in omega arith

-- what all members have
pub All-of : {X : Type 0} (P : X → Type 0) (xs : List X) → ((x : X) → Contains xs x → P x) → All P xs
All-of P xs each = All-weaker (Contains xs) P each xs (All-contains_itself xs)

pub mapped_in : {X Y : Type 0} (f : X → Y) (xs : List X) (x : X) → Contains xs x → Contains (map f xs) (f x)
mapped_in {X = X} f xs x c = All-contains (λ y. Contains (map f xs) (f y)) xs x (each xs) c
  where
    each : (ys : List X) → All (λ y. Contains (map f ys) (f y)) ys
    each [] = All-nil (λ y. Contains [] (f y))
    each (y ∷ ys) = All-cons (λ z. Contains (map f (y ∷ ys)) (f z)) y ys (first_in (f y) (map f ys))
        (All-weaker (λ z. Contains (map f ys) (f z)) (λ z. Contains (map f (y ∷ ys)) (f z)) (λ z. Contains-append_right (f y ∷ []) (map f ys) (f z)) ys (each ys))

-- what a member of a mapped list is made of
pub record MadeOf {X Y : Type 0} (f : X → Y) (xs : List X) (y : Y) : Type 0 where
  pub from : X
  pub member : Contains xs from
  pub is : f from ≡ y

pub made_of : {X Y : Type 0} (f : X → Y) (xs : List X) (y : Y) → Contains (map f xs) y → MadeOf f xs y
made_of f xs y c = All-contains (MadeOf f xs) (map f xs) y
    (All-map (MadeOf f xs) f xs (All-of (λ x. MadeOf f xs (f x)) xs (λ x h. record { from = x; member = h; is = refl }))) c

-- ---- places

same_tie : (p : Place) → is_eq (place_order p p) ≡ true
same_tie p = ap is_eq (tied_itself place_total p)

pub tied : (p q : Place) → p ≡ q → is_eq (place_order p q) ≡ true
tied p q e = subst (λ r. is_eq (place_order p r) ≡ true) e (same_tie p)

pub below_untied : (p q : Place) → place_order p q ≡ Less → is_eq (place_order p q) ≡ false
below_untied p q h = ap is_eq h

pub above_untied : (p q : Place) → place_order q p ≡ Less → is_eq (place_order p q) ≡ false
above_untied p q h = ap is_eq (place_total.antisymm p q ∙ ap ordering_reverse h)

module _ {T : Type 0} where
  -- ---- how often places stand

  abbrev pub is_at : Place → Copied T → Bool
  is_at place c = is_eq (place_order place c.row.place)

  pub times_append : (place : Place) (xs ys : List (Copied T)) → times place (xs ++ ys) ≡ times place xs + times place ys
  times_append place xs ys = sum_by-append (λ c. cond (is_at place c) 1 0) xs ys

  pub times_moved : (place : Place) (xs ys : List (Copied T)) → IsPermutation xs ys → times place xs ≡ times place ys
  times_moved place xs ys p = sym (sum_by-IsPermutation (λ c. cond (is_at place c) 1 0) xs ys p)

  -- one row more: of the place, or of another one
  pub times_here : (place : Place) (c : Copied T) (xs : List (Copied T)) → is_at place c ≡ true → times place (c ∷ xs) ≡ 1 + times place xs
  times_here place c xs h = sum_by-cons (λ d. cond (is_at place d) 1 0) c xs ∙ rw h refl

  pub times_past : (place : Place) (c : Copied T) (xs : List (Copied T)) → is_at place c ≡ false → times place (c ∷ xs) ≡ times place xs
  times_past place c xs h = sum_by-cons (λ d. cond (is_at place d) 1 0) c xs ∙ rw h (omega arith)

  -- the place of a row stands at least once
  pub stands : (place : Place) (xs : List (Copied T)) (c : Copied T) → Contains xs c → is_at place c ≡ true → 0 < times place xs
  stands place xs c h at =
      let rest = remove xs h.0 in
      let moved = times_moved place xs (c ∷ rest) (IsPermutation-remove xs h.0 c h.1 (sym h.2)) in
      let more = times_here place c rest at in
      omega (arith, moved, more)

  -- and one that stands is that of a row
  pub record Found (place : Place) (xs : List (Copied T)) : Type 0 where
    pub copy : Copied T
    pub member : Contains xs copy
    pub at : place ≡ copy.row.place

  pub found : (place : Place) (xs : List (Copied T)) → 0 < times place xs → Found place xs
  found place [] h = absurd (omega (arith, h))
  found place (c ∷ xs) h = by_test (found place xs) (is_at place c) refl
    where
      by_test : (0 < times place xs → Found place xs) → (b : Bool) → is_at place c ≡ b → Found place (c ∷ xs)
      by_test later true e = record { copy = c; member = first_in c xs; at = same_place place c.row.place e }
      by_test later false e =
          let past = times_past place c xs e in
          let f = later (omega (arith, h, past)) in
          record { copy = f.copy; member = Contains-append_right (c ∷ []) xs f.copy f.member; at = f.at }

  pub times_none : (place : Place) (xs : List (Copied T)) → All (λ c. is_at place c ≡ false) xs → times place xs ≡ 0
  times_none place [] h = refl
  times_none place (c ∷ xs) h =
      let here : is_at place c ≡ false = All-head (λ (d : Copied T). is_at place d ≡ false) c xs h in
      let rest = times_none place xs (All-tail (λ (d : Copied T). is_at place d ≡ false) c xs h) in
      sum_by-cons (λ d. cond (is_at place d) 1 0) c xs ∙ rw here (omega (arith, rest))

  pub times_all : (place : Place) (xs : List (Copied T)) → All (λ c. is_at place c ≡ true) xs → times place xs ≡ length xs
  times_all place [] h = refl
  times_all place (c ∷ xs) h =
      let here : is_at place c ≡ true = All-head (λ (d : Copied T). is_at place d ≡ true) c xs h in
      let rest = times_all place xs (All-tail (λ (d : Copied T). is_at place d ≡ true) c xs h) in
      sum_by-cons (λ d. cond (is_at place d) 1 0) c xs ∙ rw here (omega (arith, rest))

  -- ---- rows in another order

  pub whole_moved : (xs ys : List (Copied T)) → IsPermutation xs ys → (place : Place) → IsWhole xs place → IsWhole ys place
  whole_moved xs ys p place w = (w.0, Contains-permutation xs ys w.0 p w.1, w.2, sym (times_moved place xs ys p) ∙ w.3)

  pub often_moved : (xs ys : List (Copied T)) → IsPermutation xs ys → (place : Place) → StandsTooOften xs place → StandsTooOften ys place
  often_moved xs ys p place w = (w.0, Contains-permutation xs ys w.0 p w.1, w.2, subst (λ n. w.0.needed < n) (times_moved place xs ys p) w.3)

  pub merge_moved : (xs ys : List (Copied T)) (rows : List (Placed T)) → IsPermutation xs ys → IsMergeOf xs rows → IsMergeOf ys rows
  merge_moved xs ys rows p m =
      let back = IsPermutation-sym xs ys p in
      record {
        rises = m.rises;
        among = All-weaker (λ row. Contains (map (λ c. c.row) xs) row × IsWhole xs row.place) (λ row. Contains (map (λ c. c.row) ys) row × IsWhole ys row.place)
            (λ row h. (
              Contains-permutation (map (λ (c : Copied T). c.row) xs) (map (λ (c : Copied T). c.row) ys) row (IsPermutation-map (λ (c : Copied T). c.row) xs ys p) h.0,
              whole_moved xs ys p row.place h.1,
            )) rows m.among;
        each = λ place w. m.each place (whole_moved ys xs back place w);
        within = λ place w. m.within place (often_moved ys xs back place w);
      }

  -- ---- rows, and rows above them

  -- rows that rise, and rows that rise above all of them, one after the other
  pub rises_both : (before : Option Place) (rows more : List (Placed T)) → RisesFrom before rows → RisesFrom None more → All (λ m. IsAbove before m.place) more
      → All (λ r. All (λ m. place_order r.place m.place ≡ Less) more) rows → RisesFrom before (rows ++ more)
  rises_both before [] [] up high first below = tt
  rises_both before [] (m ∷ more) up high first below = (All-head (λ (n : Placed T). IsAbove before n.place) m more first, high.1)
  rises_both before (r ∷ rows) more up high first below = (
    up.0,
    rises_both (Some r.place) rows more up.1 high (All-head (λ (q : Placed T). All (λ n. place_order q.place n.place ≡ Less) more) r rows below)
        (All-tail (λ (q : Placed T). All (λ n. place_order q.place n.place ≡ Less) more) r rows below),
  )

  -- each of the first rows stands below each of the others
  abbrev pub AreApart : List (Copied T) → List (Copied T) → Type 0
  AreApart xs ys = (c d : Copied T) → Contains xs c → Contains ys d → place_order c.row.place d.row.place ≡ Less

  module _ (xs ys : List (Copied T)) (apart : AreApart xs ys) where
    none_above : (c : Copied T) → Contains xs c → times c.row.place ys ≡ 0
    none_above c h = times_none c.row.place ys (All-of (λ d. is_at c.row.place d ≡ false) ys (λ d there. below_untied c.row.place d.row.place (apart c d h there)))

    none_below : (d : Copied T) → Contains ys d → times d.row.place xs ≡ 0
    none_below d h = times_none d.row.place xs (All-of (λ c. is_at d.row.place c ≡ false) xs (λ c there. above_untied d.row.place c.row.place (apart c d there h)))

    -- a place of the lower rows stands as often among all rows, and so does one of the higher ones
    times_low : (place : Place) (c : Copied T) → Contains xs c → c.row.place ≡ place → times place (xs ++ ys) ≡ times place xs
    times_low place c h e =
        let none : times place ys ≡ 0 = subst (λ p. times p ys ≡ 0) e (none_above c h) in
        let all = times_append place xs ys in
        omega (arith, none, all)

    times_high : (place : Place) (d : Copied T) → Contains ys d → d.row.place ≡ place → times place (xs ++ ys) ≡ times place ys
    times_high place d h e =
        let none : times place xs ≡ 0 = subst (λ p. times p xs ≡ 0) e (none_below d h) in
        let all = times_append place xs ys in
        omega (arith, none, all)

    whole_low : (place : Place) → IsWhole xs place → IsWhole (xs ++ ys) place
    whole_low place w = (w.0, Contains-append_left xs ys w.0 w.1, w.2, times_low place w.0 w.1 w.2 ∙ w.3)

    whole_high : (place : Place) → IsWhole ys place → IsWhole (xs ++ ys) place
    whole_high place w = (w.0, Contains-append_right xs ys w.0 w.1, w.2, times_high place w.0 w.1 w.2 ∙ w.3)

    whole_cases : (place : Place) → IsWhole (xs ++ ys) place → IsWhole xs place ⊎ IsWhole ys place
    whole_cases place w = ⊎_elim
        (λ low. inl (w.0, low, w.2, sym (times_low place w.0 low w.2) ∙ w.3))
        (λ high. inr (w.0, high, w.2, sym (times_high place w.0 high w.2) ∙ w.3))
        (Contains-append_cases xs ys w.0 w.1)

    often_cases : (place : Place) → StandsTooOften (xs ++ ys) place → StandsTooOften xs place ⊎ StandsTooOften ys place
    often_cases place w = ⊎_elim
        (λ low. inl (w.0, low, w.2, subst (λ n. w.0.needed < n) (times_low place w.0 low w.2) w.3))
        (λ high. inr (w.0, high, w.2, subst (λ n. w.0.needed < n) (times_high place w.0 high w.2) w.3))
        (Contains-append_cases xs ys w.0 w.1)

    -- the merge of all is that of the lower rows, and behind it that of the higher ones
    pub merge_both : (rows more : List (Placed T)) → IsMergeOf xs rows → IsMergeOf ys more → IsMergeOf (xs ++ ys) (rows ++ more)
    merge_both rows more m n =
        let row_of = λ (c : Copied T). c.row in
        let low_rows = map row_of xs in
        let high_rows = map row_of ys in
        let both : map row_of (xs ++ ys) ≡ low_rows ++ high_rows = map-append row_of xs ys in
        record {
          rises = rises_both None rows more m.rises n.rises (All-of (λ h. IsAbove None h.place) more (λ h t. tt))
              (All-weaker (λ r. Contains low_rows r × IsWhole xs r.place) (λ r. All (λ h. place_order r.place h.place ≡ Less) more)
              (λ r low. All-weaker (λ h. Contains high_rows h × IsWhole ys h.place) (λ h. place_order r.place h.place ≡ Less)
              (λ h high. rows_apart r h (made_of row_of xs r low.0) (made_of row_of ys h high.0)) more n.among) rows m.among);
          among = All-append (λ row. Contains (map row_of (xs ++ ys)) row × IsWhole (xs ++ ys) row.place) rows more
              (All-weaker (λ row. Contains low_rows row × IsWhole xs row.place) (λ row. Contains (map row_of (xs ++ ys)) row × IsWhole (xs ++ ys) row.place)
              (λ row h. (subst (λ l. Contains l row) (sym both) (Contains-append_left low_rows high_rows row h.0), whole_low row.place h.1)) rows m.among)
              (All-weaker (λ row. Contains high_rows row × IsWhole ys row.place) (λ row. Contains (map row_of (xs ++ ys)) row × IsWhole (xs ++ ys) row.place)
              (λ row h. (subst (λ l. Contains l row) (sym both) (Contains-append_right low_rows high_rows row h.0), whole_high row.place h.1)) more n.among);
          each = λ place w. ⊎_elim (λ low. has_left place (m.each place low)) (λ high. has_right place (n.each place high)) (whole_cases place w);
          within = λ place w. ⊎_elim (m.within place) (n.within place) (often_cases place w);
        }
      where
        rows_apart : (r h : Placed T) → MadeOf (λ (c : Copied T). c.row) xs r → MadeOf (λ (c : Copied T). c.row) ys h → place_order r.place h.place ≡ Less
        rows_apart r h low high =
            subst (λ (q : Placed T). place_order q.place h.place ≡ Less) low.is
            (subst (λ (q : Placed T). place_order low.from.row.place q.place ≡ Less) high.is (apart low.from high.from low.member high.member))

        has_left : (place : Place) → HasPlace rows place → HasPlace (rows ++ more) place
        has_left place h = (h.0, Contains-append_left rows more h.0 h.1, h.2)

        has_right : (place : Place) → HasPlace more place → HasPlace (rows ++ more) place
        has_right place h = (h.0, Contains-append_right rows more h.0 h.1, h.2)

  -- ---- no rows

  pub merge_none : IsMergeOf {T = T} [] []
  merge_none = record {
    rises = tt;
    among = All-nil (λ (row : Placed T). Contains (map (λ (c : Copied T). c.row) []) row × IsWhole [] row.place);
    each = λ place w. absurd (none_in w.0 w.1);
    within = λ place w. absurd (none_in w.0 w.1);
  }

  -- ---- the rows of one place

  -- so many rows of this place, one of them of a row, where the least number of which they have to be is this one
  pub record AreOfPlace (taken : List (Copied T)) (row : Placed T) (needed times : ℕ) : Type 0 where
    pub at : All (λ c. c.row.place ≡ row.place) taken
    pub count : length taken ≡ times
    pub least : All (λ c. needed ≤ c.needed) taken
    pub first : Contains (map (λ c. c.row) taken) row
    pub some : Copied T
    pub member : Contains taken some
    pub is : some.needed ≡ needed

  module _ (taken : List (Copied T)) (row : Placed T) (needed many : ℕ) (of : AreOfPlace taken row needed many) where
    place_of : (c : Copied T) → Contains taken c → c.row.place ≡ row.place
    place_of c h = All-contains (λ (d : Copied T). d.row.place ≡ row.place) taken c of.at h

    pub times_taken : times row.place taken ≡ many
    times_taken = times_all row.place taken (All-of (λ c. is_at row.place c ≡ true) taken (λ c h. tied row.place c.row.place (sym (place_of c h)))) ∙ of.count

    -- of another place there is no row
    times_at : (place : Place) (c : Copied T) → Contains taken c → c.row.place ≡ place → times place taken ≡ many
    times_at place c h e = subst (λ p. times p taken ≡ many) (sym (place_of c h) ∙ e) times_taken

    -- they don't stand too often, if they aren't more than the least number
    not_often : many ≤ needed → (place : Place) → StandsTooOften taken place → ⊥
    not_often low place w =
        let most : needed ≤ w.0.needed = All-contains (λ (c : Copied T). needed ≤ c.needed) taken w.0 of.least w.1 in
        let more : w.0.needed < many = subst (λ n. w.0.needed < n) (times_at place w.0 w.1 w.2) w.3 in
        omega (arith, low, most, more)

    -- as many as they have to be: their merge is the row
    pub merge_whole : many ≡ needed → IsMergeOf taken (row ∷ [])
    merge_whole e =
        let whole : IsWhole taken row.place = (of.some, of.member, place_of of.some of.member, times_taken ∙ e ∙ sym of.is) in
        record {
          rises = (tt, tt);
          among = All-cons (λ r. Contains (map (λ c. c.row) taken) r × IsWhole taken r.place) row [] (of.first, whole)
              (All-nil (λ (r : Placed T). Contains (map (λ c. c.row) taken) r × IsWhole taken r.place));
          each = λ place w. (row, first_in row [], sym (place_of w.0 w.1) ∙ w.2);
          within = not_often (omega (arith, e));
        }

    -- fewer: it is none
    pub merge_short : many < needed → IsMergeOf taken []
    merge_short low = record {
      rises = tt;
      among = All-nil (λ (r : Placed T). Contains (map (λ c. c.row) taken) r × IsWhole taken r.place);
      each = λ place w.
          let most : needed ≤ w.0.needed = All-contains (λ (c : Copied T). needed ≤ c.needed) taken w.0 of.least w.1 in
          let same : many ≡ w.0.needed = sym (times_at place w.0 w.1 w.2) ∙ w.3 in
          absurd (omega (arith, low, most, same));
      within = not_often (omega (arith, low));
    }

    -- more than the least number: the place stands too often
    pub too_often : needed < many → StandsTooOften taken row.place
    too_often more =
        (of.some, of.member, place_of of.some of.member, subst (λ n. of.some.needed < n) (sym times_taken) (subst (λ n. n < many) (sym of.is) more))
