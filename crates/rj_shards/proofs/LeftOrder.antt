-- The rows of a joined table in the order of its left rows stand each above the one before it.
use Rattle.std.proofs.Common.{◌≡◌, ℕ, zero, suc, ◌+◌, ◌<◌, ◌≤◌, ◌==◌, Bool, true, false, cond, List, [], ◌∷◌, ◌++◌, map, refl, ap, sym, ◌∙◌, arith}
use Rattle.std.specs.List.{filter, flat_map, range_with_len}
use Rattle.std.specs.Ordering.{nat_cmp, ordering_then}
use Rattle.std.specs.declared.cmp.Ordering.{Ordering}
use Rattle.std.specs.declared.cmp.Ordering.TheVariants.{Less, Equal}
use Rattle.std.proofs.lemmas.Bool.Decides.{nat_tests}
use Rattle.rj_settings.specs.declared.choice.RowOrder.TheVariants.{LeftFirst}
use Rattle.rj_engine.specs.Chosen.{by_left_row, left_place}
use Rattle.rj_engine.specs.Join.{JoinedValue, rows_in}
use Rattle.rj_engine.specs.declared.joined.JoinedRow.{JoinedRow}
use Rattle.rj_engine.specs.declared.joined.JoinedRow.TheVariants.{Both, LeftOnly, RightOnly}
use Rattle.rj_shards.specs.declared.merge.place.Place.{Place}
use Rattle.rj_shards.specs.declared.merge.place.Place.TheVariants.{LoneAmongPairs, LoneRight}
use Rattle.rj_shards.specs.Places.{place_order}
use Rattle.rj_shards.specs.Rows.{place_of}
use Rattle.rj_shards.proofs.Rising.{IsBelow, Rise, AreBelow, below_append, pair_place, rise_append, rise_map}

pub first_less : (a b : ℕ) (r : Ordering) → a < b → ordering_then (nat_cmp a b) r ≡ Less
first_less a b r h = let e : nat_cmp a b ≡ Less = grind (arith, nat_tests) in ap (λ o. ordering_then o r) e

pub first_same : (a b : ℕ) (r : Ordering) → a ≡ b → ordering_then (nat_cmp a b) r ≡ r
first_same a b r h = let e : nat_cmp a b ≡ Equal = grind (arith, nat_tests) in ap (λ o. ordering_then o r) e

is_number : (a b : ℕ) → (a == b) ≡ true → a ≡ b
is_number a b e = grind (arith, nat_tests)

-- elements with numbers: those of one number rise, and elements of lower numbers are below those of greater ones
module _ {X : Type 0} (place : X → Place) (number : X → ℕ) where
  -- the place of an element is below those of a list's elements of the same number
  abbrev IsBelowOwn : X → List X → Type 0
  IsBelowOwn x [] = Unit {0}
  IsBelowOwn x (y ∷ ys) = (number x ≡ number y → place_order (place x) (place y) ≡ Less) × IsBelowOwn x ys

  abbrev RiseOwn : List X → Type 0
  RiseOwn [] = Unit {0}
  RiseOwn (x ∷ xs) = IsBelowOwn x xs × RiseOwn xs

  abbrev AreBelowOwn : List X → List X → Type 0
  AreBelowOwn [] ys = Unit {0}
  AreBelowOwn (x ∷ xs) ys = IsBelowOwn x ys × AreBelowOwn xs ys

  below_own : (x : X) (ys : List X) → IsBelow place (place x) ys → IsBelowOwn x ys
  below_own x [] h = tt
  below_own x (y ∷ ys) h = (λ e. h.0, below_own x ys h.1)

  rise_own : (xs : List X) → Rise place xs → RiseOwn xs
  rise_own [] h = tt
  rise_own (x ∷ xs) h = (below_own x xs h.0, rise_own xs h.1)

  below_own_append : (x : X) (ys zs : List X) → IsBelowOwn x ys → IsBelowOwn x zs → IsBelowOwn x (ys ++ zs)
  below_own_append x [] zs h i = i
  below_own_append x (y ∷ ys) zs h i = (h.0, below_own_append x ys zs h.1 i)

  rise_own_append : (xs ys : List X) → RiseOwn xs → RiseOwn ys → AreBelowOwn xs ys → RiseOwn (xs ++ ys)
  rise_own_append [] ys h i b = i
  rise_own_append (x ∷ xs) ys h i b = (below_own_append x xs ys h.0 b.0, rise_own_append xs ys h.1 i b.1)

  -- the elements of one number
  abbrev of_number : List X → ℕ → List X
  of_number xs n = filter (λ x. number x == n) xs

  below_number : (x : X) (n : ℕ) (ys : List X) → number x ≡ n → IsBelowOwn x ys → IsBelow place (place x) (of_number ys n)
  below_number x n [] is h = tt
  below_number x n (y ∷ ys) is h = by_test (below_number x n ys is h.1) (number y == n) refl
    where
      by_test : IsBelow place (place x) (of_number ys n) → (b : Bool) → (number y == n) ≡ b → IsBelow place (place x) (cond b (y ∷ of_number ys n) (of_number ys n))
      by_test rest true e = (h.0 (is ∙ sym (is_number (number y) n e)), rest)
      by_test rest false e = rest

  number_rises : (n : ℕ) (xs : List X) → RiseOwn xs → Rise place (of_number xs n)
  number_rises n [] h = tt
  number_rises n (x ∷ xs) h = by_test (number_rises n xs h.1) (number x == n) refl
    where
      by_test : Rise place (of_number xs n) → (b : Bool) → (number x == n) ≡ b → Rise place (cond b (x ∷ of_number xs n) (of_number xs n))
      by_test rest true e = (below_number x n xs (is_number (number x) n e) h.0, rest)
      by_test rest false e = rest

  module _ (m : ℕ) (apart : (x y : X) → number x < number y → number y ≤ m → place_order (place x) (place y) ≡ Less) where
    below_greater : (x : X) (n : ℕ) (ys : List X) → number x < n → n ≤ m → IsBelow place (place x) (of_number ys n)
    below_greater x n [] low within = tt
    below_greater x n (y ∷ ys) low within = by_test (below_greater x n ys low within) (number y == n) refl
      where
        by_test : IsBelow place (place x) (of_number ys n) → (b : Bool) → (number y == n) ≡ b → IsBelow place (place x) (cond b (y ∷ of_number ys n) (of_number ys n))
        by_test rest true e = let is = is_number (number y) n e in (apart x y (omega (arith, is, low)) (omega (arith, is, within)), rest)
        by_test rest false e = rest

    below_all : (x : X) (ys : List X) (a n : ℕ) → number x < a → a + n ≤ m + 1 → IsBelow place (place x) (flat_map (of_number ys) (range_with_len a n))
    below_all x ys a zero low within = tt
    below_all x ys a (suc n) low within =
        below_append place (place x) (of_number ys a) (flat_map (of_number ys) (range_with_len (a + 1) n)) (below_greater x a ys low (omega (arith, within)))
        (below_all x ys (a + 1) n (omega (arith, low)) (omega (arith, within)))

    number_below : (b : ℕ) (xs ys : List X) (a n : ℕ) → b < a → a + n ≤ m + 1 → AreBelow place (of_number xs b) (flat_map (of_number ys) (range_with_len a n))
    number_below b [] ys a n low within = tt
    number_below b (x ∷ xs) ys a n low within = by_test (number_below b xs ys a n low within) (number x == b) refl
      where
        by_test : AreBelow place (of_number xs b) (flat_map (of_number ys) (range_with_len a n)) → (t : Bool) → (number x == b) ≡ t
            → AreBelow place (cond t (x ∷ of_number xs b) (of_number xs b)) (flat_map (of_number ys) (range_with_len a n))
        by_test rest true e = let is = is_number (number x) b e in (below_all x ys a n (omega (arith, is, low)) within, rest)
        by_test rest false e = rest

    pub numbers_rise : (xs : List X) (a n : ℕ) → a + n ≤ m + 1 → RiseOwn xs → Rise place (flat_map (of_number xs) (range_with_len a n))
    numbers_rise xs a zero within h = tt
    numbers_rise xs a (suc n) within h =
        rise_append place (of_number xs a) (flat_map (of_number xs) (range_with_len (a + 1) n)) (number_rises a xs h) (numbers_rise xs (a + 1) n (omega (arith, within)) h)
        (number_below a xs xs (a + 1) n (omega arith) (omega (arith, within)))

module _ (m : ℕ) where
  -- a member of a lower left row is below one of a greater one
  rows_apart : (x y : JoinedRow) → left_place m x < left_place m y → left_place m y ≤ m → place_order (place_of LeftFirst x) (place_of LeftFirst y) ≡ Less
  rows_apart (Both i j) (Both k l) low within = first_less i k (nat_cmp j l) low
  rows_apart (Both i j) (LeftOnly k) low within = first_less i k Less low
  rows_apart (Both i j) (RightOnly l) low within = refl
  rows_apart (LeftOnly i) (Both k l) low within = first_less i k _ low
  rows_apart (LeftOnly i) (LeftOnly k) low within = first_less i k Equal low
  rows_apart (LeftOnly i) (RightOnly l) low within = refl
  rows_apart (RightOnly j) y low within = absurd (omega (arith, low, within))

  abbrev own_below : JoinedRow → List JoinedRow → Type 0
  own_below = IsBelowOwn (place_of LeftFirst) (left_place m)

  -- the pairs of a left row are below it, where it stands alone, and both are below lone right rows
  lefts_own : (i j : ℕ) (xs : List ℕ) → own_below (Both i j) (map (λ k. LeftOnly k) xs)
  lefts_own i j [] = tt
  lefts_own i j (x ∷ xs) = (λ e. first_same i x Less e, lefts_own i j xs)

  rights_own : (i j : ℕ) (ys : List ℕ) → own_below (Both i j) (map (λ k. RightOnly k) ys)
  rights_own i j [] = tt
  rights_own i j (y ∷ ys) = (λ e. refl, rights_own i j ys)

  rights_own_left : (i : ℕ) (ys : List ℕ) → own_below (LeftOnly i) (map (λ k. RightOnly k) ys)
  rights_own_left i [] = tt
  rights_own_left i (y ∷ ys) = (λ e. refl, rights_own_left i ys)

  pairs_own : (ps : List (ℕ × ℕ)) (xs : List ℕ) → AreBelowOwn (place_of LeftFirst) (left_place m) (map (λ p. Both p.0 p.1) ps) (map (λ i. LeftOnly i) xs)
  pairs_own [] xs = tt
  pairs_own (p ∷ ps) xs = (lefts_own p.0 p.1 xs, pairs_own ps xs)

  lefts_own_rights : (xs ys : List ℕ) → AreBelowOwn (place_of LeftFirst) (left_place m) (map (λ i. LeftOnly i) xs) (map (λ j. RightOnly j) ys)
  lefts_own_rights [] ys = tt
  lefts_own_rights (x ∷ xs) ys = (rights_own_left x ys, lefts_own_rights xs ys)

  both_own : (ps : List (ℕ × ℕ)) (xs ys : List ℕ)
      → AreBelowOwn (place_of LeftFirst) (left_place m) (map (λ p. Both p.0 p.1) ps ++ map (λ i. LeftOnly i) xs) (map (λ j. RightOnly j) ys)
  both_own [] xs ys = lefts_own_rights xs ys
  both_own (p ∷ ps) xs ys = (rights_own p.0 p.1 ys, both_own ps xs ys)

  -- members at their left rows rise, where each kind of them does
  pub left_rows_rise : (v : JoinedValue) → Rise pair_place v.pairs → Rise (λ i. LoneAmongPairs i) v.lone_left → Rise (λ j. LoneRight j) v.lone_right
      → Rise (place_of LeftFirst) (by_left_row m (rows_in v))
  unfolding rows_in
  left_rows_rise v h i j =
      let place = place_of LeftFirst in
      let boths = map (λ p. Both p.0 p.1) v.pairs in
      let lefts = map (λ i. LeftOnly i) v.lone_left in
      let rights = map (λ j. RightOnly j) v.lone_right in
      let own = rise_own place (left_place m) in
      numbers_rise place (left_place m) m rows_apart (boths ++ lefts ++ rights) 0 (m + 1) (omega arith)
      (rise_own_append place (left_place m) (boths ++ lefts) rights
      (rise_own_append place (left_place m) boths lefts (own boths (rise_map place (λ p. Both p.0 p.1) v.pairs h)) (own lefts (rise_map place (λ i. LeftOnly i) v.lone_left i)) (pairs_own v.pairs v.lone_left))
      (own rights (rise_map place (λ j. RightOnly j) v.lone_right j)) (both_own v.pairs v.lone_left v.lone_right))
