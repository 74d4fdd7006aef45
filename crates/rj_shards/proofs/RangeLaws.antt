-- The merges of ranges, one after another, are the merge of the whole.
use Rattle.std.proofs.Common.{◌≡◌, ◌∙◌, ℕ, ◌+◌, Bool, true, false, List, [], ◌∷◌, ◌++◌, map, Option, None, Some, Result, Ok, Err, All, refl, sym, ap, subst, append_assoc, append-nil}
use Rattle.std.specs.Prelude.{filter, if◌then◌else◌, IfOk, length, ◌==◌}
use Rattle.std.specs.Cmp.Lexicographic.{pointwise}
use Rattle.std.specs.List.{flat_map, zip}
use Rattle.std.specs.List.Sorted.{IsPermutation}
use Rattle.std.specs.Option.{option_to_list}
use Rattle.std.specs.Ordering.{is_lt}
use Rattle.std.specs.Str.{bytes_eq}
use mathlib.Core.List.{map-map}
use Rattle.std.proofs.lemmas.List.{map-append}
use Rattle.std.proofs.lemmas.List.Elements.{All-append, All-cons, All-contains, All-filter, All-head, All-map, All-nil, All-tail, filter_passes}
use Rattle.std.proofs.lemmas.List.Folds.{flat_map-map}
use Rattle.std.proofs.lemmas.List.Sorted.{IsPermutation-append_comm, IsPermutation-append_left, IsPermutation-append_right, IsPermutation-refl, IsPermutation-sym, IsPermutation-trans}
use Rattle.rj_csv_io.specs.Cuts.{records_in}
use Rattle.rj_csv_io.specs.Shown.{rows_text}
use Rattle.rj_csv_io.specs.Grammar.{comma}
use Rattle.rj_shards.specs.declared.merge.columns.Columns.{Columns}
use Rattle.rj_shards.specs.declared.merge.copies.Copies.{Copies}
use Rattle.rj_shards.specs.declared.merge.options.MergeOptions.{MergeOptions}
use Rattle.rj_shards.specs.declared.merge.place.Place.{Place}
use Rattle.rj_shards.specs.declared.merge.place.Placed.{Placed}
use Rattle.rj_shards.specs.declared.merge.refused.MergeRefused.{MergeRefused}
use Rattle.rj_shards.specs.declared.merge.refused.MergeRefused.TheVariants as refused
use Rattle.rj_shards.specs.Copies.{Copied, copied, copied_rows, copy_of}
use Rattle.rj_shards.specs.MergeHeaders.{place_columns}
use Rattle.rj_shards.specs.Inputs.{faults_of_readings, first_header, only_fault, reading_of_records, readings, readings_from, under_header}
use Rattle.rj_shards.specs.MergedTexts.{AreRanges, HaveNoFault, IsMergedText, head_rows, lists_of_texts}
use Rattle.rj_shards.specs.Places.{IsAbove, place_order}
use Rattle.rj_shards.specs.MergeRanges.{AreCuts, between, fault_before, is_from, reading_within, rows_before}
use Rattle.rj_shards.specs.Sources.{Reading}
use Rattle.rj_shards.specs.MergeTexts.{in_order, is_above, others, place_in, read_row, read_rows, reading_then}
use Rattle.rj_shards.specs.Wholes.{IsMergeOf, RisesFrom}
use Rattle.rj_shards.proofs.CutFacts.{below_cut, below_from, cut_rows, whole_before, whole_fault}
use Rattle.rj_shards.proofs.CopyFacts.{AreApart, merge_both, merge_moved}
use Rattle.rj_shards.proofs.PlaceFacts.{is_less}
use Rattle.rj_shards.proofs.WrittenFacts.{rows_text-append}

abbrev Row : Type 0
Row = Placed (List (List ℕ))

abbrev Rows : Type 0
Rows = Reading (List (List ℕ))

-- ---- a text is read alike for each range

module _ (how : MergeOptions) (from to : Option Place) (columns : Columns) (input : ℕ) where
  rows_between : (before : ℕ) (last : Option Place) (records : List (List (List ℕ))) → read_rows (between how from to) columns input before last records ≡ read_rows how columns input before last records
  unfolding read_rows
  rows_between before last [] = refl
  rows_between before last (r ∷ records) = λ t. reading_then (read_row how columns input (before + 1) last r) (λ p. rows_between (before + 1) (Some p.place) records t)

-- what a text gives without a range
abbrev raw_under : MergeOptions → ℕ → Option Columns → List (List (List ℕ)) → Rows
raw_under how input None records = only_fault (refused.NoPlaces input)
raw_under how input (Some columns) records = read_rows how columns input 0 None records

abbrev raw_records : MergeOptions → List (List ℕ) → ℕ → List (List (List ℕ)) → Rows
raw_records how first input [] = only_fault (refused.NoHeader input)
raw_records how first input (header ∷ records) = if pointwise bytes_eq header first then raw_under how input (place_columns first) records else only_fault (refused.OtherHeader input)

raws_from : MergeOptions → List (List ℕ) → ℕ → List (List ℕ) → List Rows
raws_from how first input [] = []
raws_from how first input (text ∷ texts) = raw_records how first input (records_in comma text) ∷ raws_from how first (input + 1) texts

module _ (how : MergeOptions) (from to : Option Place) (first : List (List ℕ)) where
  fault_within : (e : MergeRefused) → only_fault e ≡ reading_within (between how from to) (only_fault e)
  unfolding rows_before fault_before
  fault_within e = refl

  records_between : (input : ℕ) (records : List (List (List ℕ))) → reading_of_records (between how from to) first input records ≡ reading_within (between how from to) (raw_records how first input records)
  records_between input [] = fault_within (refused.NoHeader input)
  records_between input (header ∷ records) = by_header (pointwise bytes_eq header first) (place_columns first)
    where
      by_header : (same : Bool) (columns : Option Columns)
          → (if same then under_header (between how from to) input columns records else only_fault (refused.OtherHeader input))
          ≡ reading_within (between how from to) (if same then raw_under how input columns records else only_fault (refused.OtherHeader input))
      by_header true (Some columns) = ap (reading_within (between how from to)) (rows_between how from to columns input 0 None records)
      by_header true None = fault_within (refused.NoPlaces input)
      by_header false columns = fault_within (refused.OtherHeader input)

  readings_between : (input : ℕ) (texts : List (List ℕ)) → readings_from (between how from to) first input texts ≡ map (reading_within (between how from to)) (raws_from how first input texts)
  unfolding readings_from raws_from
  readings_between input [] = refl
  readings_between input (text ∷ texts) = λ t. records_between input (records_in comma text) t ∷ readings_between (input + 1) texts t

-- ---- the rows of a text rise

above_if : (last : Option Place) (p : Place) → is_above last p ≡ true → IsAbove last p
above_if None p h = tt
above_if (Some before) p h = is_less (place_order before p) h

module _ (input row : ℕ) (last : Option Place) (fields : List (List ℕ)) where
  order_above : (found : Result Place MergeRefused) → IfOk (in_order input row last fields found) (λ (p : Row). IsAbove last p.place)
  order_above (Err e) = tt
  order_above (Ok p) = by_test (is_above last p) refl
    where
      by_test : (b : Bool) → is_above last p ≡ b → IfOk (if b then Ok record { place = p; row = fields } else Err (refused.NotInOrder input row)) (λ (q : Row). IsAbove last q.place)
      by_test true e = above_if last p e
      by_test false e = tt

row_above : (how : MergeOptions) (columns : Columns) (input row : ℕ) (last : Option Place) (r : List (List ℕ)) → IfOk (read_row how columns input row last r) (λ (p : Row). IsAbove last p.place)
row_above how columns input row last r = by_test (length r == columns.width)
  where
    by_test : (b : Bool) → IfOk (if b then in_order input row last (others columns r) (place_in how columns input row r) else Err (refused.RaggedRow input row)) (λ (p : Row). IsAbove last p.place)
    by_test true = order_above input row last (others columns r) (place_in how columns input row r)
    by_test false = tt

then_rises : (last : Option Place) (found : Result Row MergeRefused) (more : Row → Rows) → IfOk found (λ (p : Row). IsAbove last p.place) → ((p : Row) → RisesFrom (Some p.place) (more p).rows) → RisesFrom last (reading_then found more).rows
then_rises last (Err e) more above rest = tt
then_rises last (Ok p) more above rest = (above, rest p)

pub rows_rise : (how : MergeOptions) (columns : Columns) (input before : ℕ) (last : Option Place) (records : List (List (List ℕ))) → RisesFrom last (read_rows how columns input before last records).rows
unfolding read_rows
rows_rise how columns input before last [] = tt
rows_rise how columns input before last (r ∷ records) =
    then_rises last (read_row how columns input (before + 1) last r) (λ p. read_rows how columns input (before + 1) (Some p.place) records) (row_above how columns input (before + 1) last r)
    (λ p. rows_rise how columns input (before + 1) (Some p.place) records)

module _ (how : MergeOptions) (first : List (List ℕ)) where
  raw_rises : (input : ℕ) (records : List (List (List ℕ))) → RisesFrom None (raw_records how first input records).rows
  raw_rises input [] = tt
  raw_rises input (header ∷ records) = by_header (pointwise bytes_eq header first) (place_columns first)
    where
      by_header : (same : Bool) (columns : Option Columns) → RisesFrom None (if same then raw_under how input columns records else only_fault (refused.OtherHeader input)).rows
      by_header true (Some columns) = rows_rise how columns input 0 None records
      by_header true None = tt
      by_header false columns = tt

  raws_rise : (input : ℕ) (texts : List (List ℕ)) → All (λ (r : Rows). RisesFrom None r.rows) (raws_from how first input texts)
  unfolding raws_from
  raws_rise input [] = All-nil (λ (r : Rows). RisesFrom None r.rows)
  raws_rise input (text ∷ texts) = All-cons (λ (r : Rows). RisesFrom None r.rows) (raw_records how first input (records_in comma text)) (raws_from how first (input + 1) texts) (raw_rises input (records_in comma text)) (raws_rise (input + 1) texts)

-- ---- lists of two parts each

by_parts : {X : Type 0} (a b c d : List X) → IsPermutation ((a ++ b) ++ (c ++ d)) ((a ++ c) ++ (b ++ d))
by_parts a b c d =
    let before : (a ++ b) ++ (c ++ d) ≡ a ++ ((b ++ c) ++ d) = append_assoc a b (c ++ d) ∙ ap (λ r. a ++ r) (sym (append_assoc b c d)) in
    let after : a ++ ((c ++ b) ++ d) ≡ (a ++ c) ++ (b ++ d) = ap (λ r. a ++ r) (append_assoc c b d) ∙ sym (append_assoc a c (b ++ d)) in
    subst (λ r. IsPermutation r ((a ++ c) ++ (b ++ d))) (sym before)
    (subst (IsPermutation (a ++ ((b ++ c) ++ d))) after
    (IsPermutation-append_right a ((b ++ c) ++ d) ((c ++ b) ++ d) (IsPermutation-append_left d (b ++ c) (c ++ b) (IsPermutation-append_comm b c))))

two_parts : {A X : Type 0} (P : A → Type 0) (whole low high : A → List X) → ((a : A) → P a → whole a ≡ low a ++ high a) → (xs : List A) → All P xs → IsPermutation (flat_map whole xs) (flat_map low xs ++ flat_map high xs)
two_parts P whole low high each [] all = IsPermutation-refl []
two_parts P whole low high each (x ∷ xs) all =
    let rest = two_parts P whole low high each xs (All-tail P x xs all) in
    subst (λ l. IsPermutation (l ++ flat_map whole xs) (flat_map low (x ∷ xs) ++ flat_map high (x ∷ xs))) (sym (each x (All-head P x xs all)))
    (IsPermutation-trans ((low x ++ high x) ++ flat_map whole xs) ((low x ++ high x) ++ (flat_map low xs ++ flat_map high xs)) (flat_map low (x ∷ xs) ++ flat_map high (x ∷ xs))
    (IsPermutation-append_right (low x ++ high x) (flat_map whole xs) (flat_map low xs ++ flat_map high xs) rest)
    (by_parts (low x) (high x) (flat_map low xs) (flat_map high xs)))

All-flat : {A X : Type 0} (P : X → Type 0) (f : A → List X) → ((a : A) → All P (f a)) → (xs : List A) → All P (flat_map f xs)
All-flat P f each [] = All-nil P
All-flat P f each (x ∷ xs) = All-append P (f x) (flat_map f xs) (each x) (All-flat P f each xs)

-- ---- two ranges

module _ (how : MergeOptions) (texts : List (List ℕ)) where
  abbrev raws : List Rows
  raws = raws_from how (first_header texts) 1 texts

  -- the rows of one reading within a range
  abbrev rows_in_range : Option Place → Option Place → Rows → List Row
  rows_in_range from to r = (reading_within (between how from to) r).rows

  faults_given : (from : Option Place) → faults_of_readings (readings (between how from None) texts) ≡ flat_map (λ (r : Rows). option_to_list r.fault) raws
  faults_given from =
      ap (λ l. flat_map (λ (r : Rows). option_to_list r.fault) l) (readings_between how from None (first_header texts) 1 texts)
      ∙ (flat_map-map (λ (r : Rows). option_to_list r.fault) (reading_within (between how from None)) raws
      ∙ (λ t. flat_map (λ (r : Rows). option_to_list (whole_fault r.rows r.fault t)) raws))

  -- the last range has the faults of the whole
  pub last_fault : (from other : Option Place) → HaveNoFault (between how from None) texts → HaveNoFault (between how other None) texts
  last_fault from other none = faults_given other ∙ (sym (faults_given from) ∙ none)

-- what is true of the second of two lists, side by side
All-zip : {A B : Type 0} (P : B → Type 0) (xs : List A) (ys : List B) → All P ys → All (λ (i : A × B). P i.1) (zip xs ys)
All-zip P [] ys all = All-nil (λ i. P i.1)
All-zip P (x ∷ xs) [] all = All-nil (λ i. P i.1)
All-zip P (x ∷ xs) (y ∷ ys) all = All-cons (λ i. P i.1) (x, y) (zip xs ys) (All-head P y ys all) (All-zip P xs ys (All-tail P y ys all))

zip_second : {A B C : Type 0} (f : B → C) (xs : List A) (ys : List B) → zip xs (map f ys) ≡ map (λ (i : A × B). (i.0, f i.1)) (zip xs ys)
zip_second f [] ys = refl
zip_second f (x ∷ xs) [] = refl
zip_second f (x ∷ xs) (y ∷ ys) = ap (λ l. (x, f y) ∷ l) (zip_second f xs ys)

module _ (how : MergeOptions) (copies : List Copies) (texts : List (List ℕ)) where
  -- what texts give without a range, with their copies
  abbrev all_raws : List (Copies × Rows)
  all_raws = zip copies (raws how texts)

  -- the rows of one of them within a range
  abbrev copied_in_range : Option Place → Option Place → Copies × Rows → List (Copied (List (List ℕ)))
  copied_in_range from to i = copied i.0 (rows_in_range how texts from to i.1)

  -- the rows of all of them
  abbrev all_in_range : Option Place → Option Place → List (Copied (List (List ℕ)))
  all_in_range from to = copied_rows (lists_of_texts (between how from to) copies texts)

  given : (from to : Option Place) → all_in_range from to ≡ flat_map (copied_in_range from to) all_raws
  given from to =
      ap (λ l. copied_rows (zip copies (map (λ (r : Rows). r.rows) l))) (readings_between how from to (first_header texts) 1 texts)
      ∙ (ap (λ l. copied_rows (zip copies l)) (map-map (λ (r : Rows). r.rows) (reading_within (between how from to)) (raws how texts))
      ∙ (ap copied_rows (zip_second (rows_in_range how texts from to) copies (raws how texts))
      ∙ flat_map-map (λ (i : Copies × List Row). copied i.0 i.1) (λ (i : Copies × Rows). (i.0, rows_in_range how texts from to i.1)) all_raws))

  module _ (from : Option Place) (cut : Place) (up : IsAbove from cut) where
    cut_one : (i : Copies × Rows) → RisesFrom None i.1.rows → copied_in_range from None i ≡ copied_in_range from (Some cut) i ++ copied_in_range (Some cut) None i
    cut_one i rises =
        let r = i.1 in
        ap (λ l. copied i.0 (filter (λ (row : Row). is_from from row.place) l)) (whole_before r.rows)
        ∙ (ap (copied i.0) (cut_rows from cut None r.rows up rises)
        ∙ (map-append (copy_of i.0) (rows_in_range how texts from (Some cut) r) (filter (λ (row : Row). is_from (Some cut) row.place) r.rows)
        ∙ ap (λ l. copied_in_range from (Some cut) i ++ copied i.0 (filter (λ (row : Row). is_from (Some cut) row.place) l)) (sym (whole_before r.rows))))

    -- the rows of both are those of the whole
    both_ranges : IsPermutation (all_in_range from None) (all_in_range from (Some cut) ++ all_in_range (Some cut) None)
    both_ranges =
        let split = two_parts (λ (i : Copies × Rows). RisesFrom None i.1.rows) (copied_in_range from None) (copied_in_range from (Some cut)) (copied_in_range (Some cut) None) cut_one all_raws
        (All-zip (λ (r : Rows). RisesFrom None r.rows) copies (raws how texts) (raws_rise how (first_header texts) 1 texts)) in
        subst (λ l. IsPermutation l (all_in_range from (Some cut) ++ all_in_range (Some cut) None)) (sym (given from None))
        (subst (IsPermutation (flat_map (copied_in_range from None) all_raws)) (sym (λ t. given from (Some cut) t ++ given (Some cut) None t)) split)

    -- those of the lower range stand below the cut, and those of the higher one don't
    low_below : All (λ (c : Copied (List (List ℕ))). is_lt (place_order c.row.place cut) ≡ true) (all_in_range from (Some cut))
    low_below =
        let P : Copied (List (List ℕ)) → Type 0 = λ c. is_lt (place_order c.row.place cut) ≡ true in
        subst (All P) (sym (given from (Some cut)))
        (All-flat P (copied_in_range from (Some cut))
        (λ i. All-map P (copy_of i.0) (rows_in_range how texts from (Some cut) i.1)
        (All-filter (λ (row : Row). is_from from row.place) (λ (row : Row). is_lt (place_order row.place cut) ≡ true) (rows_before (Some cut) i.1.rows) (below_cut cut i.1.rows))) all_raws)

    high_from : All (λ (c : Copied (List (List ℕ))). is_from (Some cut) c.row.place ≡ true) (all_in_range (Some cut) None)
    high_from =
        let P : Copied (List (List ℕ)) → Type 0 = λ c. is_from (Some cut) c.row.place ≡ true in
        subst (All P) (sym (given (Some cut) None))
        (All-flat P (copied_in_range (Some cut) None)
        (λ i. All-map P (copy_of i.0) (rows_in_range how texts (Some cut) None i.1) (filter_passes (λ (row : Row). is_from (Some cut) row.place) (rows_before None i.1.rows))) all_raws)

    -- so the merges of both are the merge of the whole
    joined : (low high : List Row) → IsMergeOf (all_in_range from (Some cut)) low → IsMergeOf (all_in_range (Some cut) None) high → IsMergeOf (all_in_range from None) (low ++ high)
    joined low high m n =
        let lower = all_in_range from (Some cut) in
        let higher = all_in_range (Some cut) None in
        let apart : AreApart lower higher = λ c d here there. below_from c.row.place cut d.row.place
        (All-contains (λ (x : Copied (List (List ℕ))). is_lt (place_order x.row.place cut) ≡ true) lower c low_below here)
        (All-contains (λ (x : Copied (List (List ℕ))). is_from (Some cut) x.row.place ≡ true) higher d high_from there) in
        merge_moved (lower ++ higher) (all_in_range from None) (low ++ high) (IsPermutation-sym (all_in_range from None) (lower ++ higher) both_ranges) (merge_both lower higher apart low high m n)

    -- and so are their texts
    texts_joined : (part rest : List ℕ) → IsMergedText (between how from (Some cut)) copies texts part → IsMergedText (between how (Some cut) None) copies texts rest
        → IsMergedText (between how from None) copies texts (part ++ rest)
    texts_joined part rest m n =
        let row : Row → List (List ℕ) = λ p. p.row in
        let head = head_rows from (others m.columns (first_header texts)) in
        record {
          columns = m.columns;
          rows = m.rows ++ n.rows;
          places = m.places;
          merge = joined m.rows n.rows m.merge n.merge;
          shown = (λ t. m.shown t ++ n.shown t)
              ∙ (sym (rows_text-append how.delimiter (head ++ map row m.rows) (map row n.rows))
              ∙ ap (rows_text how.delimiter) (append_assoc head (map row m.rows) (map row n.rows) ∙ ap (λ l. head ++ l) (sym (map-append row m.rows n.rows))));
        }

  -- all ranges from a place on
  pub ranges_joined : (from : Option Place) (cuts : List Place) (parts : List (List ℕ)) → AreCuts from cuts → AreRanges how copies texts from cuts parts
      → IsMergedText (between how from None) copies texts (flat_map (λ part. part) parts)
  ranges_joined from [] [] up are = absurd are
  ranges_joined from [] (part ∷ []) up are = subst (IsMergedText (between how from None) copies texts) (sym (append-nil part)) are
  ranges_joined from [] (part ∷ more ∷ parts) up are = absurd are
  ranges_joined from (cut ∷ cuts) [] up are = absurd are
  ranges_joined from (cut ∷ cuts) (part ∷ parts) up are =
      texts_joined from cut up.0 part (flat_map (λ part. part) parts) are.0 (ranges_joined (Some cut) cuts parts up.1 are.1)
