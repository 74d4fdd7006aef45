-- What an output got of a merge before an error.
use Rattle.std.proofs.Common.{◌≡◌, ◌∙◌, ℕ, Bool, true, false, cond, List, [], ◌∷◌, ◌++◌, Option, None, Some, All, Vec, Box, Global, refl, sym, ap, subst, append-nil}
use Rattle.std.specs.Prelude.{filter, not}
use Rattle.std.specs.List.Sorted.{IsPermutation}
use Rattle.std.specs.Ordering.{is_lt}
use Rattle.std.proofs.KnownBytes.{Appends-nil}
use Rattle.std.proofs.lemmas.List.Elements.{All-append, All-cons, All-head, All-map, All-nil, All-tail, filter-append}
use Rattle.std.proofs.lemmas.List.Sorted.{IsPermutation-append_comm, IsPermutation-append_left, IsPermutation-cons, IsPermutation-refl, IsPermutation-sym, IsPermutation-trans}
use Rattle.csv.specs.declared.writer.Writer.{Writer}
use Rattle.rj_csv_io.specs.Remaining.{records_remaining}
use Rattle.rj_csv_io.specs.Written.{HasWritten}
use Rattle.rj_shards.specs.declared.merge.copies.Copies.{Copies}
use Rattle.rj_shards.specs.declared.merge.head.Head.{Head}
use Rattle.rj_shards.specs.declared.merge.input.TextSource.{TextSource}
use Rattle.rj_shards.specs.declared.merge.options.MergeOptions.{MergeOptions}
use Rattle.rj_shards.specs.declared.merge.place.Place.{Place}
use Rattle.rj_shards.specs.declared.merge.place.Placed.{Placed}
use Rattle.rj_shards.specs.Copies.{Copied, copied, copied_rows, copy_of, up_to}
use Rattle.rj_shards.specs.Inputs.{boxed_reading, records_reading}
use Rattle.rj_shards.specs.MergedTexts.{GotFirst, records_text}
use Rattle.rj_shards.specs.Merging.{AreAbove, AreHeads, AreNewest, IsPassed, Passes, lists_of_inputs, rows_of_heads, rows_of_inputs}
use Rattle.rj_shards.specs.Places.{IsAbove, is_up_to}
use Rattle.rj_shards.specs.MergeRanges.{is_before, is_from, reading_within, rows_before}
use Rattle.rj_shards.specs.Sources.{Reading}
use Rattle.rj_shards.specs.Steps.{stage_of}
use Rattle.rj_shards.specs.MergeTexts.{read_rows}
use Rattle.rj_shards.specs.Wholes.{IsMergeOf, RisesFrom}
use Rattle.rj_shards.proofs.CopyFacts.{merge_moved, merge_none}
use Rattle.rj_shards.proofs.HeadFacts.{rows_listed}
use Rattle.rj_shards.proofs.Moved.{along_permutation}
use Rattle.rj_shards.proofs.PassFacts.{above_on}
use Rattle.rj_shards.proofs.MergePutFacts.{HasPut, source_last}
use Rattle.rj_shards.proofs.RangeLaws.{rows_rise}
use Rattle.rj_shards.proofs.StepFacts.{gave_passes}

-- ---- chosen elements of a list in another order

module _ {X : Type 0} (test : X → Bool) where
  under_one : (b : Bool) (x : X) (xs ys : List X) → IsPermutation xs ys → IsPermutation (cond b (x ∷ xs) xs) (cond b (x ∷ ys) ys)
  under_one true x xs ys h = IsPermutation-cons x xs ys h
  under_one false x xs ys h = h

  turn_two : (a b : Bool) (x y : X) (xs : List X) → IsPermutation (cond a (x ∷ cond b (y ∷ xs) xs) (cond b (y ∷ xs) xs)) (cond b (y ∷ cond a (x ∷ xs) xs) (cond a (x ∷ xs) xs))
  turn_two true true x y xs = IsPermutation-append_left xs (x ∷ y ∷ []) (y ∷ x ∷ []) (IsPermutation-append_comm (x ∷ []) (y ∷ []))
  turn_two true false x y xs = IsPermutation-refl (x ∷ xs)
  turn_two false true x y xs = IsPermutation-refl (y ∷ xs)
  turn_two false false x y xs = IsPermutation-refl xs

  pub filter_moved : (xs ys : List X) → IsPermutation xs ys → IsPermutation (filter test xs) (filter test ys)
  filter_moved = along_permutation (λ xs ys. IsPermutation (filter test xs) (filter test ys))
      (λ xs. IsPermutation-refl (filter test xs))
      (λ x xs ys h. under_one (test x) x (filter test xs) (filter test ys) h)
      (λ x y xs. turn_two (test x) (test y) x y (filter test xs))
      (λ xs ys zs. IsPermutation-trans (filter test xs) (filter test ys) (filter test zs))

-- ---- the rows up to a place

passed_up_to : (last : Option Place) (p : Place) → IsPassed last p → is_up_to last p ≡ true
passed_up_to None p h = absurd h
passed_up_to (Some last) p h = ap not h

above_not_up_to : (last : Option Place) (p : Place) → IsAbove last p → is_up_to last p ≡ false
above_not_up_to None p h = refl
above_not_up_to (Some last) p h = ap (λ o. not (is_lt o)) h

module _ {T : Type 0} (last : Option Place) where
  up_to_passed : (rows : List (Copied T)) → All (λ c. IsPassed last c.row.place) rows → up_to last rows ≡ rows
  up_to_passed [] h = refl
  up_to_passed (c ∷ rows) h =
      let here = passed_up_to last c.row.place (All-head (λ (d : Copied T). IsPassed last d.row.place) c rows h) in
      let rest = up_to_passed rows (All-tail (λ (d : Copied T). IsPassed last d.row.place) c rows h) in
      λ t. cond (here t) (c ∷ rest t) (rest t)

  up_to_above : (rows : List (Copied T)) → All (λ c. IsAbove last c.row.place) rows → up_to last rows ≡ []
  up_to_above [] h = refl
  up_to_above (c ∷ rows) h =
      let here = above_not_up_to last c.row.place (All-head (λ (d : Copied T). IsAbove last d.row.place) c rows h) in
      let rest = up_to_above rows (All-tail (λ (d : Copied T). IsAbove last d.row.place) c rows h) in
      λ t. cond (here t) (c ∷ rest t) (rest t)

  -- what was passed is all rows up to a place, if those that are left are above it
  pub pass_up_to : (old new : List (Copied T)) (rows : List (Placed T)) → Passes None last old new rows → All (λ c. IsAbove last c.row.place) new → IsMergeOf (up_to last old) rows
  pass_up_to old new rows p high =
      let test = λ (c : Copied T). is_up_to last c.row.place in
      let parts : up_to last (p.taken ++ new) ≡ p.taken =
      filter-append test p.taken new ∙ ((λ t. up_to_passed p.taken p.passed t ++ up_to_above new high t) ∙ append-nil p.taken) in
      let moved : IsPermutation (up_to last old) p.taken = subst (IsPermutation (up_to last old)) parts (filter_moved test old (p.taken ++ new) p.all) in
      merge_moved p.taken (up_to last old) rows (IsPermutation-sym (up_to last old) p.taken moved) p.merge

-- ---- the rows that heads and their inputs still have

module _ {T : Type 0} where
  rises_above : (before : Option Place) (place : Place) (rows : List (Placed T)) → IsAbove before place → RisesFrom (Some place) rows → All (λ r. IsAbove before r.place) rows
  rises_above before place [] up h = All-nil (λ (r : Placed T). IsAbove before r.place)
  rises_above before place (row ∷ rows) up h =
      let here = above_on before place up row.place h.0 in
      All-cons (λ (r : Placed T). IsAbove before r.place) row rows here (rises_above before row.place rows here h.1)

module _ {T S : Type 0} (own : S → Copies) (gives : S → Reading T) (last : S → Option Place) (rise : (s : S) → RisesFrom (last s) (gives s).rows) (passed : Option Place) where
  above_head : (h : Head T S) → last h.source ≡ Some h.next.place → IsAbove passed h.next.place → All (λ c. IsAbove passed c.row.place) (copied (own h.source) (h.next ∷ (gives h.source).rows))
  above_head h newest up =
      let rows = (gives h.source).rows in
      let later = rises_above passed h.next.place rows up (subst (λ p. RisesFrom p rows) newest (rise h.source)) in
      All-map (λ (c : Copied T). IsAbove passed c.row.place) (copy_of (own h.source)) (h.next ∷ rows) (All-cons (λ (r : Placed T). IsAbove passed r.place) h.next rows up later)

  above_heads : (heads : List (Head T S)) → AreNewest last heads → AreAbove passed heads → All (λ c. IsAbove passed c.row.place) (rows_of_heads own gives heads)
  above_heads [] newest up = All-nil (λ (c : Copied T). IsAbove passed c.row.place)
  above_heads (h ∷ heads) newest up =
      All-append (λ (c : Copied T). IsAbove passed c.row.place) (copied (own h.source) (h.next ∷ (gives h.source).rows)) (rows_of_heads own gives heads)
      (above_head h (All-head (λ (g : Head T S). last g.source ≡ Some g.next.place) h heads newest) (All-head (λ (g : Head T S). IsAbove passed g.next.place) h heads up))
      (above_heads heads (All-tail (λ (g : Head T S). last g.source ≡ Some g.next.place) h heads newest) (All-tail (λ (g : Head T S). IsAbove passed g.next.place) h heads up))

-- ---- the rows of an input rise from the one that it gave last

module _ {T : Type 0} where
  lower_rises : (before : Option Place) (place : Place) (rows : List (Placed T)) → IsAbove before place → RisesFrom (Some place) rows → RisesFrom before rows
  lower_rises before place [] up h = tt
  lower_rises before place (row ∷ rows) up h = (above_on before place up row.place h.0, h.1)

  before_rises : (end before : Option Place) (rows : List (Placed T)) → RisesFrom before rows → RisesFrom before (rows_before end rows)
  unfolding rows_before
  before_rises end before [] h = tt
  before_rises end before (row ∷ rows) h = by_test (before_rises end (Some row.place) rows h.1) (is_before end row.place)
    where
      by_test : RisesFrom (Some row.place) (rows_before end rows) → (b : Bool) → RisesFrom before (cond b (row ∷ rows_before end rows) [])
      by_test later true = (h.0, later)
      by_test later false = tt

  from_rises : (first before : Option Place) (rows : List (Placed T)) → RisesFrom before rows → RisesFrom before (filter (λ r. is_from first r.place) rows)
  from_rises first before [] h = tt
  from_rises first before (row ∷ rows) h = by_test (from_rises first (Some row.place) rows h.1) (is_from first row.place)
    where
      by_test : RisesFrom (Some row.place) (filter (λ r. is_from first r.place) rows) → (b : Bool)
          → RisesFrom before (cond b (row ∷ filter (λ r. is_from first r.place) rows) (filter (λ r. is_from first r.place) rows))
      by_test later true = (h.0, later)
      by_test later false = lower_rises before row.place (filter (λ r. is_from first r.place) rows) h.0 later

  within_rises : (how : MergeOptions) (before : Option Place) (r : Reading T) → RisesFrom before r.rows → RisesFrom before (reading_within how r).rows
  within_rises how before r h = from_rises how.from before (rows_before how.to r.rows) (before_rises how.to before r.rows h)

pub boxed_rises : {R : Type 0} (known : R → Option (List ℕ)) (b : Box (TextSource R) Global) → RisesFrom (source_last b) (boxed_reading known b).rows
boxed_rises known b = within_rises b.value.how.now b.value.last (records_reading known b.value) (by_end b.value.ended)
  where
    rest : Reading (List (List ℕ))
    rest = read_rows b.value.how.now b.value.columns b.value.input b.value.row b.value.last (records_remaining known b.value.reader.value)

    by_end : (ended : Bool) → RisesFrom b.value.last (cond ended (record { rows = []; fault = None }) rest).rows
    by_end true = tt
    by_end false = rows_rise b.value.how.now b.value.columns b.value.input b.value.row b.value.last (records_remaining known b.value.reader.value)

-- ---- what was put

-- nothing was
pub first-none : (d : ℕ) (text : List ℕ) (all : List (Copied (List (List ℕ)))) (told : Option (List ℕ)) → GotFirst d text all told told
first-none d text all told = record {
  last = None;
  rows = [];
  merge = subst (λ l. IsMergeOf l []) (sym (none_up_to all)) merge_none;
  text = [];
  more = text ++ records_text d [];
  whole = refl;
  got = Appends-nil told;
}
  where
    none_up_to : (rows : List (Copied (List (List ℕ)))) → up_to None rows ≡ []
    none_up_to [] = refl
    none_up_to (c ∷ rows) = none_up_to rows

module _ {S : Type 0} (d : ℕ) (telling : S → Type 0) (own : S → Copies) (gives : S → Reading (List (List ℕ))) (last : S → Option Place) (rise : (s : S) → RisesFrom (last s) (gives s).rows)
    (sources : List S) (passed : Option Place) (heads : List (Head (List (List ℕ)) S)) (start : Option (List ℕ)) (begun block : Writer (Vec ℕ Global)) (told : Option (List ℕ)) where
  pub first-put : HasPut d telling own gives sources passed heads start begun block told → AreHeads last passed heads → All telling sources → (text : List ℕ) → HasWritten d begun text []
      → GotFirst d text (copied_rows (lists_of_inputs own gives sources)) start told
  first-put h lawful all text w =
      let shown = h.shown text w in
      let now = stage_of own gives passed heads in
      let merge = pass_up_to passed (rows_of_inputs own gives sources) now.rows h.rows (gave_passes own gives sources h.rows now (h.gave all)) (above_heads own gives last rise passed heads lawful.newest lawful.above) in
      record {
        last = passed;
        rows = h.rows;
        merge = subst (λ l. IsMergeOf (up_to passed l) h.rows) (sym (rows_listed own gives sources)) merge;
        text = shown.put;
        more = shown.kept;
        whole = shown.whole;
        got = shown.got;
      }
