-- The rows of a joined table stand each above the one before it.
use Rattle.std.proofs.Common.{◌≡◌, ℕ, zero, suc, ◌+◌, ◌<◌, ◌≤◌, Bool, true, false, cond, List, [], ◌∷◌, ◌++◌, map, None, Some, refl, ap, sym, subst, ◌∙◌, slice_index, slice_index_or, arith, All}
use Rattle.std.specs.Cmp.{tied_itself}
use Rattle.std.specs.List.{count_by, filter, flat_map, range_with_len}
use Rattle.std.specs.List.Sorted.{IsSorted, IsStrictlyIncreasing}
use Rattle.std.specs.declared.cmp.Ordering.TheVariants.{Less, Equal}
use Rattle.std.specs.Ordering.{is_lt, nat_cmp, ordering_then}
use Rattle.std.proofs.lemmas.Bool.{false≢true}
use Rattle.std.proofs.lemmas.Bool.Decides.{nat_tests}
use Rattle.std.proofs.lemmas.List.Elements.{All-cons, All-nil}
use Rattle.rj_settings.specs.declared.choice.RowOrder.TheVariants.{PairsFirst}
use Rattle.rj_shards.specs.declared.merge.place.Place.{Place}
use Rattle.rj_shards.specs.declared.merge.place.Place.TheVariants.{Pair, LoneAmongPairs, LoneLeft, LoneRight}
use Rattle.rj_shards.specs.declared.merge.place.Placed.{Placed}
use Rattle.rj_shards.specs.Places.{place_order, place_total}
use Rattle.rj_shards.specs.Wholes.{RisesFrom}
use Rattle.rj_engine.specs.declared.joined.JoinedRow.TheVariants.{Both, LeftOnly, RightOnly}
use Rattle.rj_engine.specs.Join.{JoinedValue, pairs, product, row_of, absent, rows_in}
use Rattle.rj_hashjoin.specs.Joining.{cross, kept_of}
use Rattle.rj_shards.specs.Rows.{place_of}
use Rattle.rj_shards.specs.Shards.{by_left_then_right}
use Rattle.rj_shards.proofs.Counted.{count_cons}

module _ {X : Type 0} (place : X → Place) where
  -- a place is below those of a list
  abbrev pub IsBelow : Place → List X → Type 0
  IsBelow p [] = Unit {0}
  IsBelow p (x ∷ xs) = (place_order p (place x) ≡ Less) × IsBelow p xs

  -- the place of each is below those of all behind it
  abbrev pub Rise : List X → Type 0
  Rise [] = Unit {0}
  Rise (x ∷ xs) = IsBelow (place x) xs × Rise xs

  -- the places of some list are below those of another one
  abbrev pub AreBelow : List X → List X → Type 0
  AreBelow [] ys = Unit {0}
  AreBelow (x ∷ xs) ys = IsBelow (place x) ys × AreBelow xs ys

  pub below_append : (p : Place) (xs ys : List X) → IsBelow p xs → IsBelow p ys → IsBelow p (xs ++ ys)
  below_append p [] ys h i = i
  below_append p (x ∷ xs) ys h i = (h.0, below_append p xs ys h.1 i)

  pub rise_append : (xs ys : List X) → Rise xs → Rise ys → AreBelow xs ys → Rise (xs ++ ys)
  rise_append [] ys h i b = i
  rise_append (x ∷ xs) ys h i b = (below_append (place x) xs ys h.0 b.0, rise_append xs ys h.1 i b.1)

  below_kept : (p : Place) (x : X) (xs : List X) (b : Bool) → place_order p (place x) ≡ Less → IsBelow p xs → IsBelow p (cond b (x ∷ xs) xs)
  below_kept p x xs true h i = (h, i)
  below_kept p x xs false h i = i

  below_filter : (p : Place) (f : X → Bool) (xs : List X) → IsBelow p xs → IsBelow p (filter f xs)
  below_filter p f [] h = tt
  below_filter p f (x ∷ xs) h = below_kept p x (filter f xs) (f x) h.0 (below_filter p f xs h.1)

  rise_kept : (x : X) (xs : List X) (b : Bool) → IsBelow (place x) xs → Rise xs → Rise (cond b (x ∷ xs) xs)
  rise_kept x xs true h i = (h, i)
  rise_kept x xs false h i = i

  -- of what rises, some rise
  pub rise_filter : (f : X → Bool) (xs : List X) → Rise xs → Rise (filter f xs)
  rise_filter f [] h = tt
  rise_filter f (x ∷ xs) h = rise_kept x (filter f xs) (f x) (below_filter (place x) f xs h.0) (rise_filter f xs h.1)

-- the same of lists that are mapped
module _ {X Y : Type 0} (place : Y → Place) (g : X → Y) where
  below_map : (p : Place) (xs : List X) → IsBelow (λ x. place (g x)) p xs → IsBelow place p (map g xs)
  below_map p [] h = tt
  below_map p (x ∷ xs) h = (h.0, below_map p xs h.1)

  pub rise_map : (xs : List X) → Rise (λ x. place (g x)) xs → Rise place (map g xs)
  rise_map [] h = tt
  rise_map (x ∷ xs) h = (below_map (place (g x)) xs h.0, rise_map xs h.1)

-- rows whose places rise stand each above the one before it
module _ {T : Type 0} where
  from_below : (before : Place) (rows : List (Placed T)) → IsBelow (λ (row : Placed T). row.place) before rows → Rise (λ (row : Placed T). row.place) rows → RisesFrom (Some before) rows
  from_below before [] h i = tt
  from_below before (row ∷ rows) h i = (h.0, from_below row.place rows i.0 i.1)

  pub rises_from : (rows : List (Placed T)) → Rise (λ (row : Placed T). row.place) rows → RisesFrom None rows
  rises_from [] h = tt
  rises_from (row ∷ rows) h = (tt, from_below row.place rows h.0 h.1)

pub before_first : (a b c d : ℕ) → a < b → ordering_then (nat_cmp a b) (nat_cmp c d) ≡ Less
before_first a b c d h = grind (arith, nat_tests)

pub before_second : (a c d : ℕ) → c < d → ordering_then (nat_cmp a a) (nat_cmp c d) ≡ Less
before_second a c d h = grind (arith, nat_tests)

-- where a pair of row numbers stands
abbrev pub pair_place : ℕ × ℕ → Place
pair_place p = Pair p.0 p.1

-- numbers that rise, as places of one kind
module _ (place : ℕ → Place) (up : (a b : ℕ) → a < b → place_order (place a) (place b) ≡ Less) where
  range_below : (p a n : ℕ) → p < a → IsBelow place (place p) (range_with_len a n)
  range_below p a zero h = tt
  range_below p a (suc n) h = (up p a h, range_below p (a + 1) n (omega (arith, h)))

  pub range_rises : (a n : ℕ) → Rise place (range_with_len a n)
  range_rises a zero = tt
  range_rises a (suc n) = (range_below a (a + 1) n (omega arith), range_rises (a + 1) n)

  pub absent_rise : (numbers : List ℕ) (n : ℕ) → Rise place (absent numbers n)
  unfolding absent
  absent_rise numbers n = rise_filter place _ (range_with_len 0 n) (range_rises 0 n)

  pub added_rise : (adds : Bool) (numbers : List ℕ) (n : ℕ) → Rise place (cond adds (absent numbers n) [])
  added_rise true numbers n = absent_rise numbers n
  added_rise false numbers n = tt

pub left_up : (a b : ℕ) → a < b → place_order (LoneLeft a) (LoneLeft b) ≡ Less
left_up a b h = before_first a b 0 0 h

pub among_up : (a b : ℕ) → a < b → place_order (LoneAmongPairs a) (LoneAmongPairs b) ≡ Less
among_up a b h = before_first a b 0 0 h

pub right_up : (a b : ℕ) → a < b → place_order (LoneRight a) (LoneRight b) ≡ Less
right_up a b h = before_first a b 0 0 h

-- a number as a place
abbrev pub number_place : ℕ → Place
number_place j = LoneRight j

pub is_less : (a b : ℕ) → place_order (number_place a) (number_place b) ≡ Less → a < b
is_less a b h = grind (arith, nat_tests)

-- a pair is below those of later left rows
below_row : (i j b : ℕ) (ys : List ℕ) → i < b → IsBelow pair_place (Pair i j) (map (λ k. (b, k)) ys)
below_row i j b [] h = tt
below_row i j b (y ∷ ys) h = (before_first i b j y h, below_row i j b ys h)

below_rows : (i j : ℕ) (xs ys : List ℕ) → IsBelow number_place (number_place i) xs → IsBelow pair_place (Pair i j) (cross xs ys)
below_rows i j [] ys h = tt
below_rows i j (x ∷ xs) ys h = below_append pair_place (Pair i j) (map (λ k. (x, k)) ys) (cross xs ys) (below_row i j x ys (is_less i x h.0)) (below_rows i j xs ys h.1)

row_below : (i : ℕ) (xs ys zs : List ℕ) → IsBelow number_place (number_place i) xs → AreBelow pair_place (map (λ k. (i, k)) zs) (cross xs ys)
row_below i xs ys [] h = tt
row_below i xs ys (z ∷ zs) h = (below_rows i z xs ys h, row_below i xs ys zs h)

-- and of later right rows
below_later : (i j : ℕ) (ys : List ℕ) → IsBelow number_place (number_place j) ys → IsBelow pair_place (Pair i j) (map (λ k. (i, k)) ys)
below_later i j [] h = tt
below_later i j (y ∷ ys) h = (before_second i j y (is_less j y h.0), below_later i j ys h.1)

row_rises : (i : ℕ) (ys : List ℕ) → Rise number_place ys → Rise pair_place (map (λ k. (i, k)) ys)
row_rises i [] h = tt
row_rises i (y ∷ ys) h = (below_later i y ys h.0, row_rises i ys h.1)

rows_rise : (xs ys : List ℕ) → Rise number_place xs → Rise number_place ys → Rise pair_place (cross xs ys)
rows_rise [] ys h i = tt
rows_rise (x ∷ xs) ys h i = rise_append pair_place (map (λ k. (x, k)) ys) (cross xs ys) (row_rises x ys i) (rows_rise xs ys h.1 i) (row_below x xs ys ys h.0)

-- the pairs that are kept of rows that rise
pub kept_rise : (keeps : ℕ → ℕ → Bool) (xs ys : List ℕ) → Rise number_place xs → Rise number_place ys → Rise pair_place (kept_of keeps xs ys)
kept_rise keeps xs ys h i = rise_filter pair_place (λ p. keeps p.0 p.1) (cross xs ys) (rows_rise xs ys h i)

pub pairs_rise : (keeps : ℕ → ℕ → Bool) (m n : ℕ) → Rise pair_place (pairs keeps m n)
unfolding pairs product row_of
pairs_rise keeps m n = kept_rise keeps (range_with_len 0 m) (range_with_len 0 n) (range_rises number_place right_up 0 m) (range_rises number_place right_up 0 n)

not_above : (a b c d : ℕ) → ordering_then (nat_cmp a b) (nat_cmp c d) ≡ Less → is_lt (ordering_then (nat_cmp b a) (nat_cmp d c)) ≡ false
not_above a b c d h = grind (arith, nat_tests)

-- pairs that rise are sorted
pub sorted_pairs : (ps : List (ℕ × ℕ)) → Rise pair_place ps → IsSorted by_left_then_right ps
sorted_pairs [] h k d low within = absurd (omega (arith, within))
sorted_pairs (p ∷ []) h k d low within = absurd (omega (arith, within))
sorted_pairs (p ∷ q ∷ ps) h zero d low within = not_above p.0 q.0 p.1 q.1 h.0.0
sorted_pairs (p ∷ q ∷ ps) h (suc k) d low within =
    let e : suc k + 1 ≡ suc (k + 1) = omega arith in
    subst (λ i. is_lt (by_left_then_right (slice_index_or (p ∷ q ∷ ps) i d) (slice_index_or (q ∷ ps) k d)) ≡ false) (sym e)
    (sorted_pairs (q ∷ ps) h.1 k d (omega arith) (omega (arith, within)))

-- numbers each of which is greater than the one before are below all behind them
later_numbers : (x : ℕ) (xs : List ℕ) → IsStrictlyIncreasing (x ∷ xs) → IsStrictlyIncreasing xs
later_numbers x xs up k within =
    let e : suc k + 1 ≡ suc (k + 1) = omega arith in
    subst (λ i. slice_index xs k < slice_index (x ∷ xs) i) e (up (suc k) (omega (arith, within)))

numbers_above : (p x : ℕ) (xs : List ℕ) → p < x → IsStrictlyIncreasing (x ∷ xs) → IsBelow number_place (number_place p) (x ∷ xs)
numbers_above p x [] low up = (right_up p x low, tt)
numbers_above p x (y ∷ ys) low up = let next : x < y = up 0 (omega arith) in (right_up p x low, numbers_above p y ys (omega (arith, low, next)) (later_numbers x (y ∷ ys) up))

pub increasing_rise : (xs : List ℕ) → IsStrictlyIncreasing xs → Rise number_place xs
increasing_rise [] up = tt
increasing_rise (x ∷ []) up = (tt, tt)
increasing_rise (x ∷ y ∷ ys) up = let next : x < y = up 0 (omega arith) in let rest = later_numbers x (y ∷ ys) up in (numbers_above x y ys next rest, increasing_rise (y ∷ ys) rest)

-- a place isn't below itself
pub not_itself : (p : Place) → place_order p p ≡ Less → ⊥
not_itself p h = let e : Less ≡ Equal = sym h ∙ tied_itself place_total p in false≢true (sym (ap is_lt e))

-- of elements whose places rise one at most has this place
module _ {X : Type 0} (place : X → Place) (test : X → Bool) (p : Place) (of : (x : X) → test x ≡ true → place x ≡ p) where
  none_above : (xs : List X) → IsBelow place p xs → count_by test xs ≡ 0
  none_above [] h = refl
  none_above (x ∷ xs) h = by_test (test x) refl (count_cons test x xs) (none_above xs h.1)
    where
      by_test : (b : Bool) → test x ≡ b → count_by test (x ∷ xs) ≡ cond b 1 0 + count_by test xs → count_by test xs ≡ 0 → count_by test (x ∷ xs) ≡ 0
      by_test true passes e rest = absurd (not_itself p (subst (λ q. place_order p q ≡ Less) (of x passes) h.0))
      by_test false passes e rest = omega (arith, e, rest)

  pub once : (xs : List X) → Rise place xs → count_by test xs ≤ 1
  once [] h = omega arith
  once (x ∷ xs) h = by_test (test x) refl (count_cons test x xs) (once xs h.1)
    where
      by_test : (b : Bool) → test x ≡ b → count_by test (x ∷ xs) ≡ cond b 1 0 + count_by test xs → count_by test xs ≤ 1 → count_by test (x ∷ xs) ≤ 1
      by_test true passes e rest = let none = none_above xs (subst (λ q. IsBelow place q xs) (of x passes) h.0) in omega (arith, e, none)
      by_test false passes e rest = omega (arith, e, rest)

-- runs of what rises rise
module _ {X : Type 0} (place : X → Place) where
  below_front : (p : Place) (xs ys : List X) → IsBelow place p (xs ++ ys) → IsBelow place p xs
  below_front p [] ys h = tt
  below_front p (x ∷ xs) ys h = (h.0, below_front p xs ys h.1)

  rise_front : (xs ys : List X) → Rise place (xs ++ ys) → Rise place xs
  rise_front [] ys h = tt
  rise_front (x ∷ xs) ys h = (below_front (place x) xs ys h.0, rise_front xs ys h.1)

  rise_back : (xs ys : List X) → Rise place (xs ++ ys) → Rise place ys
  rise_back [] ys h = h
  rise_back (x ∷ xs) ys h = rise_back xs ys h.1

  pub runs_rise : (runs : List (List X)) → Rise place (flat_map (λ run. run) runs) → All (Rise place) runs
  runs_rise [] h = All-nil (Rise place)
  runs_rise (run ∷ runs) h =
      All-cons (Rise place) run runs (rise_front run (flat_map (λ run. run) runs) h) (runs_rise runs (rise_back run (flat_map (λ run. run) runs) h))

-- kept pairs stand before lone left rows, and both before lone right rows
lefts_above : (i j : ℕ) (xs : List ℕ) → IsBelow (place_of PairsFirst) (Pair i j) (map (λ k. LeftOnly k) xs)
lefts_above i j [] = tt
lefts_above i j (x ∷ xs) = (refl, lefts_above i j xs)

rights_above : (i j : ℕ) (ys : List ℕ) → IsBelow (place_of PairsFirst) (Pair i j) (map (λ k. RightOnly k) ys)
rights_above i j [] = tt
rights_above i j (y ∷ ys) = (refl, rights_above i j ys)

rights_above_left : (i : ℕ) (ys : List ℕ) → IsBelow (place_of PairsFirst) (LoneLeft i) (map (λ k. RightOnly k) ys)
rights_above_left i [] = tt
rights_above_left i (y ∷ ys) = (refl, rights_above_left i ys)

pairs_below_lefts : (ps : List (ℕ × ℕ)) (xs : List ℕ) → AreBelow (place_of PairsFirst) (map (λ p. Both p.0 p.1) ps) (map (λ i. LeftOnly i) xs)
pairs_below_lefts [] xs = tt
pairs_below_lefts (p ∷ ps) xs = (lefts_above p.0 p.1 xs, pairs_below_lefts ps xs)

lefts_below : (xs ys : List ℕ) → AreBelow (place_of PairsFirst) (map (λ i. LeftOnly i) xs) (map (λ j. RightOnly j) ys)
lefts_below [] ys = tt
lefts_below (x ∷ xs) ys = (rights_above_left x ys, lefts_below xs ys)

both_below : (ps : List (ℕ × ℕ)) (xs ys : List ℕ) → AreBelow (place_of PairsFirst) (map (λ p. Both p.0 p.1) ps ++ map (λ i. LeftOnly i) xs) (map (λ j. RightOnly j) ys)
both_below [] xs ys = lefts_below xs ys
both_below (p ∷ ps) xs ys = (rights_above p.0 p.1 ys, both_below ps xs ys)

-- members rise, where each kind of them does
pub members_rise : (v : JoinedValue) → Rise pair_place v.pairs → Rise (λ i. LoneLeft i) v.lone_left → Rise (λ j. LoneRight j) v.lone_right → Rise (place_of PairsFirst) (rows_in v)
unfolding rows_in
members_rise v h i j =
    rise_append (place_of PairsFirst) (map (λ p. Both p.0 p.1) v.pairs ++ map (λ i. LeftOnly i) v.lone_left) (map (λ j. RightOnly j) v.lone_right)
    (rise_append (place_of PairsFirst) (map (λ p. Both p.0 p.1) v.pairs) (map (λ i. LeftOnly i) v.lone_left)
    (rise_map (place_of PairsFirst) (λ p. Both p.0 p.1) v.pairs h) (rise_map (place_of PairsFirst) (λ i. LeftOnly i) v.lone_left i) (pairs_below_lefts v.pairs v.lone_left))
    (rise_map (place_of PairsFirst) (λ j. RightOnly j) v.lone_right j)
    (both_below v.pairs v.lone_left v.lone_right)
