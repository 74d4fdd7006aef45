-- Rows of one part, by their numbers.
use Rattle.std.proofs.Common.{◌≡◌, ℕ, zero, suc, ◌+◌, ◌<◌, ◌≤◌, List, [], ◌∷◌, ◌++◌, All, Option, Some, cond, Bool, true, false, refl, ap, sym, ◌∙◌, arith, append_assoc, length, length-append, map, get_or, add-zero}
use Rattle.std.specs.Prelude.{filter, ◌==◌}
use Rattle.std.specs.List.{range_with_len, zip}
use Rattle.std.proofs.lemmas.List.{get_or-append-add}
use Rattle.std.proofs.lemmas.List.Elements.{All-filter, All-map}
use Rattle.std.proofs.lemmas.List.FromFn.{get_or-range_with_len, length-range_with_len}
use Rattle.rj_columns.specs.Contents.{Content}
use Rattle.rj_radix.specs.Groups.{group, routes_to}
use Rattle.rj_shards.specs.Placed.{numbers_of, part_rows, rows_at, with_place}

-- one number more
pub range-more : (a n j : ℕ) → a + n ≡ j → range_with_len a (n + 1) ≡ range_with_len a n ++ j ∷ []
range-more a zero j e = ap (λ (k : ℕ). k ∷ []) (sym (add-zero a) ∙ e)
range-more a (suc n) j e =
    let s : suc n + 1 ≡ suc (n + 1) = omega arith in
    ap (range_with_len a) s ∙ ap (λ l. a ∷ l) (range-more (a + 1) n j (omega (arith, e)))

-- numbers below a limit
range-below : (a n limit : ℕ) → a + n ≤ limit → All (λ i. i < limit) (range_with_len a n)
range-below a n limit h k d low =
    let len = length-range_with_len a n in
    rw (get_or-range_with_len a n k d (omega (arith, low, len))) (omega (arith, low, len, h))

zip-firsts : (limit : ℕ) (numbers : List ℕ) (routes : List (Option ℕ)) → All (λ i. i < limit) numbers → All (λ (x : ℕ × Option ℕ). x.0 < limit) (zip numbers routes)
zip-firsts limit [] routes all k d low = absurd (omega (arith, low))
zip-firsts limit (i ∷ numbers) [] all k d low = absurd (omega (arith, low))
zip-firsts limit (i ∷ numbers) (r ∷ routes) all zero d low = all zero 0 (omega arith)
zip-firsts limit (i ∷ numbers) (r ∷ routes) all (suc k) d low = zip-firsts limit numbers routes (λ m e l. all (suc m) e (omega (arith, l))) k d (omega (arith, low))

-- the numbers of the rows of a part are numbers of rows
pub numbers-below : (part : List Content → ℕ) (p : ℕ) (rows : List (List Content)) → All (λ i. i < length rows) (numbers_of part p rows)
unfolding group
numbers-below part p rows =
    let routes : List (Option ℕ) = map (λ (r : List Content). Some (part r)) rows in
    let firsts = zip-firsts (length rows) (range_with_len 0 (length rows)) routes (range-below 0 (length rows) (length rows) (omega arith)) in
    All-map (λ i. i < length rows) (λ (x : ℕ × Option ℕ). x.0) (filter (λ (x : ℕ × Option ℕ). routes_to p x.1) (zip (range_with_len 0 (length rows)) routes))
    (All-filter (λ (x : ℕ × Option ℕ). routes_to p x.1) (λ (x : ℕ × Option ℕ). x.0 < length rows) _ firsts)

module _ (part : List Content → ℕ) (p first : ℕ) where
  -- the numbers and the routes of some rows
  abbrev routed : List (List Content) → ℕ → List (ℕ × Option ℕ)
  routed rows k = filter (λ (x : ℕ × Option ℕ). routes_to p x.1) (zip (range_with_len k (length rows)) (map (λ (r : List Content). Some (part r)) rows))

  -- those of this part among rows with their places
  abbrev chosen : List (List Content) → ℕ → List (List Content × ℕ)
  chosen rows place = filter (λ (x : List Content × ℕ). part x.0 == p) (zip rows (range_with_len place (length rows)))

  abbrev row_of : List (List Content) → ℕ → List Content
  row_of all i = with_place (first + i) (get_or all i [])

  abbrev shown_place : List Content × ℕ → List Content
  shown_place x = with_place x.1 x.0

  -- a first row that is of the part or isn't
  step : (all : List (List Content)) (r : List Content) (k place : ℕ) (o : Option ℕ) (xs : List (ℕ × Option ℕ)) (ys : List (List Content × ℕ)) → row_of all k ≡ with_place place r
      → map (row_of all) (map (λ (x : ℕ × Option ℕ). x.0) xs) ≡ map shown_place ys → (b : Bool)
      → map (row_of all) (map (λ (x : ℕ × Option ℕ). x.0) (cond b ((k, o) ∷ xs) xs)) ≡ map shown_place (cond b ((r, place) ∷ ys) ys)
  step all r k place o xs ys here more true = λ i. here i ∷ more i
  step all r k place o xs ys here more false = more

  -- the rows from a number on: those that follow some others
  from : (before rows all : List (List Content)) (k place : ℕ) → before ++ rows ≡ all → length before ≡ k → first + k ≡ place
      → map (row_of all) (map (λ (x : ℕ × Option ℕ). x.0) (routed rows k)) ≡ map shown_place (chosen rows place)
  from before [] all k place is e f = refl
  from before (r ∷ rows) all k place is e f =
      let size : length (before ++ r ∷ []) ≡ k + 1 = omega (arith, length-append before (r ∷ []), e) in
      let more = from (before ++ r ∷ []) rows all (k + 1) (place + 1) (append_assoc before (r ∷ []) rows ∙ is) size (omega (arith, f)) in
      let here : get_or all k [] ≡ r =
      ap (λ l. get_or l k []) (sym is) ∙ (ap (λ n. get_or (before ++ r ∷ rows) n []) (sym e ∙ sym (add-zero (length before))) ∙ get_or-append-add before (r ∷ rows) 0 []) in
      step all r k place (Some (part r)) (routed rows (k + 1)) (chosen rows (place + 1)) (λ i. with_place (f i) (here i)) more (part r == p)

  pub numbers-rows : (rows : List (List Content)) → rows_at rows first (numbers_of part p rows) ≡ part_rows part p first rows
  unfolding group part_rows
  numbers-rows rows = from [] rows rows 0 first refl refl (add-zero first)
