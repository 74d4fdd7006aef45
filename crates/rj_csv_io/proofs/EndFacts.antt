-- The records of rows, and by their fronts and their ends.
use Rattle.std.proofs.Common.{◌≡◌, ◌∙◌, ◌<◌, ◌≤◌, ◌+◌, ◌-◌, ℕ, zero, suc, List, [], ◌∷◌, ◌++◌, length, map, min, take, drop, refl, sym, ap, add-one, append_assoc, arith}
use Rattle.std.specs.Prelude.{slice_index_or, unwrap_or}
use Rattle.std.specs.List.{concat}
use Rattle.std.proofs.lemmas.List.{append-nil, get_or-drop, get_or-map, get_or-take, length-append, length-drop, length-map, length-take, map-append, take_more}
use Rattle.std.proofs.Math.Seq.{drop-append_seam, take-add, take-append_seam}
use Rattle.std.proofs.lemmas.List.{drop-drop}
use Rattle.std.proofs.lemmas.List.Folds.{concat-append}
use Rattle.csv.specs.Records.{field_at}
use Rattle.csv.specs.declared.writer.WriterBuilder.{WriterBuilder}
use Rattle.csv.specs.Writing.{row_text, row_body, is_blank, field_text, fields_text}
use Rattle.rj_columns.specs.Contents.{Content, nothing}
use Rattle.rj_csv_io.specs.Shown.{range_text, rows_text, shown, writer_of}
use Rattle.rj_csv_io.specs.declared.ends.RowEnds.{RowEnds}
use Rattle.rj_csv_io.specs.Ends.{AreEnded, IsEnded, but_last, end_at, end_text, nulls, record_of, records_between}

-- ---- a record by its two sides

-- fields behind others
fields-join : (cfg : WriterBuilder) (xs ys : List (List ℕ)) → fields_text cfg (xs ++ ys) ≡ fields_text cfg xs ++ fields_text cfg ys
unfolding fields_text
fields-join cfg [] ys = refl
fields-join cfg (x ∷ xs) ys =
    ap (λ t. cfg.delimiter ∷ (field_text cfg x ++ t)) (fields-join cfg xs ys)
    ∙ ap (λ t. cfg.delimiter ∷ t) (sym (append_assoc (field_text cfg x) (fields_text cfg xs) (fields_text cfg ys)))

-- a text and one byte more
but-last : (text : List ℕ) (b : ℕ) → but_last (text ++ b ∷ []) ≡ text
but-last text b =
    let size : length (text ++ b ∷ []) - 1 ≡ length text = omega (arith, length-append text (b ∷ [])) in
    ap (λ n. take n (text ++ b ∷ [])) size ∙ take-append_seam text (b ∷ [])

-- a record of two fields or more ends with a line feed alone
two-fields : (d : ℕ) (x y : List ℕ) (xs : List (List ℕ)) → row_text (writer_of d) (x ∷ y ∷ xs) ≡ row_body (writer_of d) (x ∷ y ∷ xs) ++ 10 ∷ []
unfolding is_blank
two-fields d x y xs = refl

-- the record of an empty field and of others
empty-first : (d : ℕ) (z : List ℕ) (zs : List (List ℕ)) → row_text (writer_of d) ([] ∷ z ∷ zs) ≡ fields_text (writer_of d) (z ∷ zs) ++ 10 ∷ []
unfolding is_blank
empty-first d z zs = refl

-- the record of two fields or more, and of others behind them
pub record-by-sides : (d : ℕ) (x y : List ℕ) (xs : List (List ℕ)) (z : List ℕ) (zs : List (List ℕ))
    → row_text (writer_of d) ((x ∷ y ∷ xs) ++ (z ∷ zs)) ≡ but_last (row_text (writer_of d) (x ∷ y ∷ xs)) ++ row_text (writer_of d) ([] ∷ z ∷ zs)
record-by-sides d x y xs z zs =
    let cfg = writer_of d in
    let front = row_body cfg (x ∷ y ∷ xs) in
    let others = fields_text cfg (z ∷ zs) in
    let body : row_body cfg (x ∷ y ∷ (xs ++ (z ∷ zs))) ≡ front ++ others =
    ap (λ t. field_text cfg x ++ t) (fields-join cfg (y ∷ xs) (z ∷ zs)) ∙ sym (append_assoc (field_text cfg x) (fields_text cfg (y ∷ xs)) others) in
    let whole : row_text cfg ((x ∷ y ∷ xs) ++ (z ∷ zs)) ≡ front ++ (others ++ 10 ∷ []) =
    two-fields d x y (xs ++ (z ∷ zs)) ∙ (ap (λ t. t ++ 10 ∷ []) body ∙ append_assoc front others (10 ∷ [])) in
    let first : but_last (row_text cfg (x ∷ y ∷ xs)) ≡ front = ap but_last (two-fields d x y xs) ∙ but-last front 10 in
    whole ∙ sym (λ t. first t ++ empty-first d z zs t)

-- the record of a row by its front and its end
record-by-end : (d : ℕ) (null : List ℕ) (front cells : List Content) → 2 ≤ length front → 0 < length cells
    → record_of d null (front ++ cells) ≡ but_last (record_of d null front) ++ end_text d null cells
record-by-end d null [] cells h k = absurd (omega arith)
record-by-end d null (a ∷ []) cells h k = absurd (omega arith)
record-by-end d null (a ∷ b ∷ front) [] h k = absurd (omega arith)
record-by-end d null (a ∷ b ∷ front) (c ∷ cells) h k =
    ap (row_text (writer_of d)) (map-append (shown null) (a ∷ b ∷ front) (c ∷ cells))
    ∙ record-by-sides d (shown null a) (shown null b) (map (shown null) front) (shown null c) (map (shown null) cells)

-- ---- the records of consecutive rows

-- the field at a place
pub field-at : (fields : List (List ℕ)) (i : ℕ) → unwrap_or (field_at fields i) [] ≡ slice_index_or fields i []
unfolding field_at
field-at [] i = refl
field-at (f ∷ fields) zero = refl
field-at (f ∷ fields) (suc i) = field-at fields i

-- what is written behind a text
pub written-since : (start : ℕ) (text record_ : List ℕ) → start ≡ length text → drop (min start (length (text ++ record_))) (text ++ record_) ≡ record_
written-since start text record_ e =
    let low : min start (length (text ++ record_)) ≡ length text = omega (arith, e, length-append text record_) in
    ap (λ n. drop n (text ++ record_)) low ∙ drop-append_seam text record_

module _ (d : ℕ) (null : List ℕ) (rows : List (List Content)) where
  pub records-none : (from : ℕ) → records_between d null rows from from ≡ []
  records-none from = let none : from - from ≡ 0 = omega arith in ap (λ n. map (record_of d null) (take n (drop from rows))) none

  pub records-join : (a b c : ℕ) → a ≤ b → b ≤ c → records_between d null rows a b ++ records_between d null rows b c ≡ records_between d null rows a c
  records-join a b c h k =
      let size : (b - a) + (c - b) ≡ c - a = omega arith in
      let back : a + (b - a) ≡ b = omega arith in
      let rest : drop (b - a) (drop a rows) ≡ drop b rows = drop-drop (b - a) a rows ∙ ap (λ n. drop n rows) back in
      let whole : take (c - a) (drop a rows) ≡ take (b - a) (drop a rows) ++ take (c - b) (drop b rows) =
      ap (λ n. take n (drop a rows)) (sym size) ∙ (take-add (b - a) (c - b) (drop a rows) ∙ ap (λ t. take (b - a) (drop a rows) ++ take (c - b) t) rest) in
      sym (ap (map (record_of d null)) whole ∙ map-append (record_of d null) (take (b - a) (drop a rows)) (take (c - b) (drop b rows)))

  pub records-more : (from i : ℕ) → from ≤ i → i < length rows
      → records_between d null rows from (i + 1) ≡ records_between d null rows from i ++ record_of d null (slice_index_or rows i []) ∷ []
  records-more from i low h =
      let size = length-drop from rows in
      let here : i - from < length (drop from rows) = omega arith in
      let next : i + 1 - from ≡ i - from + 1 = omega arith in
      let more = take_more (drop from rows) (i - from) [] here in
      let at : slice_index_or (drop from rows) (i - from) [] ≡ slice_index_or rows i [] =
      get_or-drop from rows (i - from) [] ∙ ap (λ k. slice_index_or rows k []) (omega arith) in
      rw (next, more, map-append, at) refl

  pub length-records : (from to : ℕ) → to ≤ length rows → length (records_between d null rows from to) ≡ to - from
  length-records from to h =
      let part = take (to - from) (drop from rows) in
      omega (arith, length-map part (record_of d null), length-take (to - from) (drop from rows), length-drop from rows)

  pub record-at : (from to k : ℕ) → to ≤ length rows → k < to - from
      → slice_index_or (records_between d null rows from to) k [] ≡ record_of d null (slice_index_or rows (from + k) [])
  record-at from to k h low =
      let part = take (to - from) (drop from rows) in
      let inside : k < length part = omega (arith, length-take (to - from) (drop from rows), length-drop from rows) in
      let at : slice_index_or part k [] ≡ slice_index_or rows (from + k) [] =
      get_or-take (to - from) (drop from rows) k [] low ∙ (get_or-drop from rows k [] ∙ ap (λ j. slice_index_or rows j []) (omega arith)) in
      get_or-map (record_of d null) part k [] [] inside ∙ ap (record_of d null) at

-- records one after another
records-text : (d : ℕ) (null : List ℕ) (rows : List (List Content)) → concat (map (record_of d null) rows) ≡ rows_text d (map (map (shown null)) rows)
unfolding rows_text
records-text d null [] = refl
records-text d null (r ∷ rows) = ap (λ t. record_of d null r ++ t) (records-text d null rows)

pub range-records : (d : ℕ) (null : List ℕ) (rows : List (List Content)) (from to : ℕ) → concat (records_between d null rows from to) ≡ range_text d null rows from to
range-records d null rows from to = records-text d null (take (to - from) (drop from rows))

-- texts up to one more
pub concat-next : (texts : List (List ℕ)) (k : ℕ) → k < length texts → concat (take (k + 1) texts) ≡ concat (take k texts) ++ slice_index_or texts k []
concat-next texts k h =
    let t = slice_index_or texts k [] in
    ap concat (take_more texts k [] h) ∙ (concat-append (take k texts) (t ∷ []) ∙ ap (λ r. concat (take k texts) ++ r) (append-nil t))

-- ---- the records of rows with fronts and ends

-- a row's record
pub record-ended : (d : ℕ) (null : List ℕ) (front row : List Content) (text : List ℕ) → IsEnded d null front row text
    → record_of d null row ≡ but_last (record_of d null front) ++ text
record-ended d null front row text h =
    ap (record_of d null) h.row_is ∙ (record-by-end d null front h.cells h.wide h.some ∙ ap (λ t. but_last (record_of d null front) ++ t) (sym h.text_is))

-- the record of one of the rows from one to another
pub records-ended : (d : ℕ) (null : List ℕ) (fronts rows : List (List Content)) (e : RowEnds) (from to k : ℕ) → AreEnded d null fronts rows e
    → to ≤ length fronts → k < to - from
    → slice_index_or (records_between d null rows from to) k [] ≡ but_last (slice_index_or (records_between d null fronts from to) k []) ++ end_at e (from + k)
records-ended d null fronts rows e from to k h within low =
    let same = h.count in
    let one = h.each (from + k) (omega arith) in
    record-at d null rows from to k (omega (arith, same)) low
    ∙ (record-ended d null (slice_index_or fronts (from + k) []) (slice_index_or rows (from + k) []) (end_at e (from + k)) one
    ∙ ap (λ t. but_last t ++ end_at e (from + k)) (sym (record-at d null fronts from to k within low)))

-- ---- NULLs

pub nulls-none : nulls 0 ≡ []
unfolding nulls
nulls-none = refl

next-null : (n : ℕ) → nulls (suc n) ≡ nulls n ++ nothing ∷ []
unfolding nulls
next-null zero = refl
next-null (suc n) = ap (λ t. nothing ∷ t) (next-null n)

nulls-more : (n : ℕ) → nulls (n + 1) ≡ nulls n ++ nothing ∷ []
nulls-more n = rw add-one (next-null n)

pub shown-nulls-more : (null : List ℕ) (n : ℕ) → map (shown null) (nulls (n + 1)) ≡ map (shown null) (nulls n) ++ null ∷ []
shown-nulls-more null n = ap (map (shown null)) (nulls-more n) ∙ map-append (shown null) (nulls n) (nothing ∷ [])

-- what isn't there of some columns
pub nulls-map : {X : Type 0} (xs : List X) → map (λ x. nothing) xs ≡ nulls (length xs)
unfolding nulls
nulls-map [] = refl
nulls-map (x ∷ xs) = ap (λ t. nothing ∷ t) (nulls-map xs)
