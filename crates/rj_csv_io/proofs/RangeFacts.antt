-- The text of rows in ranges that follow each other.
use Rattle.std.proofs.Common.{◌≡◌, ◌∙◌, ◌<◌, ◌≤◌, ◌+◌, ◌-◌, ℕ, List, [], ◌∷◌, ◌++◌, map, take, drop, length, refl, sym, ap, append_assoc, arith}
use Rattle.std.specs.Prelude.{slice_index_or}
use Rattle.std.proofs.Math.Seq.{take-add, take-nil}
use Rattle.std.proofs.lemmas.List.{append-nil, map-append, take_more, take_all, drop_all, length-drop, get_or-drop, drop-drop}
use Rattle.csv.specs.Writing.{row_text}
use Rattle.rj_columns.specs.Contents.{Content}
use Rattle.rj_csv_io.specs.Shown.{range_text, rows_text, shown, table_text, writer_of}

-- the texts of records in two parts
rows_text-append : (d : ℕ) (xs ys : List (List (List ℕ))) → rows_text d (xs ++ ys) ≡ rows_text d xs ++ rows_text d ys
unfolding rows_text
rows_text-append d [] ys = refl
rows_text-append d (x ∷ xs) ys = ap (λ t. row_text (writer_of d) x ++ t) (rows_text-append d xs ys) ∙ sym (append_assoc (row_text (writer_of d) x) (rows_text d xs) (rows_text d ys))

rows_text-one : (d : ℕ) (r : List (List ℕ)) → rows_text d (r ∷ []) ≡ row_text (writer_of d) r
unfolding rows_text
rows_text-one d r = rw append-nil refl

-- no row
pub range-none : (d : ℕ) (null : List ℕ) (rows : List (List Content)) (from : ℕ) → range_text d null rows from from ≡ []
unfolding rows_text
range-none d null rows from = let none : from - from ≡ 0 = omega arith in rw none refl

-- two ranges that follow each other
pub range-join : (d : ℕ) (null : List ℕ) (rows : List (List Content)) (a b c : ℕ) → a ≤ b → b ≤ c → range_text d null rows a b ++ range_text d null rows b c ≡ range_text d null rows a c
range-join d null rows a b c h k =
    let size : (b - a) + (c - b) ≡ c - a = omega arith in
    let back : a + (b - a) ≡ b = omega arith in
    let rest : drop (b - a) (drop a rows) ≡ drop b rows = drop-drop (b - a) a rows ∙ ap (λ n. drop n rows) back in
    let whole : take (c - a) (drop a rows) ≡ take (b - a) (drop a rows) ++ take (c - b) (drop b rows) =
    ap (λ n. take n (drop a rows)) (sym size) ∙ (take-add (b - a) (c - b) (drop a rows) ∙ ap (λ t. take (b - a) (drop a rows) ++ take (c - b) t) rest) in
    rw (whole, map-append) (sym (rows_text-append d (map (map (shown null)) (take (b - a) (drop a rows))) (map (map (shown null)) (take (c - b) (drop b rows)))))

-- a range that begins behind the last row
pub range-past : (d : ℕ) (null : List ℕ) (rows : List (List Content)) (from to : ℕ) → length rows ≤ from → range_text d null rows from to ≡ []
unfolding rows_text
range-past d null rows from to h = rw (drop_all from rows h, take-nil) refl

-- a range that ends behind the last row
pub range-all : (d : ℕ) (null : List ℕ) (rows : List (List Content)) (to : ℕ) → length rows ≤ to → range_text d null rows 0 to ≡ range_text d null rows 0 (length rows)
range-all d null rows to h =
    let one : take (to - 0) rows ≡ rows = take_all (to - 0) rows (omega arith) in
    let other : take (length rows - 0) rows ≡ rows = take_all (length rows - 0) rows (omega arith) in
    ap (λ (r : List (List Content)). rows_text d (map (map (shown null)) r)) (one ∙ sym other)

-- one more row
pub range-more : (d : ℕ) (null : List ℕ) (rows : List (List Content)) (from i : ℕ) → from ≤ i → i < length rows
    → range_text d null rows from (i + 1) ≡ range_text d null rows from i ++ row_text (writer_of d) (map (shown null) (slice_index_or rows i []))
range-more d null rows from i low h =
    let size = length-drop from rows in
    let here : i - from < length (drop from rows) = omega arith in
    let next : i + 1 - from ≡ i - from + 1 = omega arith in
    let more = take_more (drop from rows) (i - from) [] here in
    let at : slice_index_or (drop from rows) (i - from) [] ≡ slice_index_or rows i [] =
    get_or-drop from rows (i - from) [] ∙ ap (λ k. slice_index_or rows k []) (omega arith) in
    let row = map (shown null) (slice_index_or rows i []) in
    rw (next, more, map-append, at)
    (rows_text-append d (map (map (shown null)) (take (i - from) (drop from rows))) (row ∷ []) ∙ ap (λ t. rows_text d (map (map (shown null)) (take (i - from) (drop from rows))) ++ t) (rows_text-one d row))

-- no rows
pub rows-none : (d : ℕ) → rows_text d [] ≡ []
unfolding rows_text
rows-none d = refl

-- the texts of rows that follow each other
pub rows-join : (d : ℕ) (null : List ℕ) (rows more : List (List Content))
    → rows_text d (map (map (shown null)) rows) ++ rows_text d (map (map (shown null)) more) ≡ rows_text d (map (map (shown null)) (rows ++ more))
rows-join d null rows more = rw map-append (sym (rows_text-append d (map (map (shown null)) rows) (map (map (shown null)) more)))

-- the text of a header and then that of rows
pub header-join : (d : ℕ) (null : List ℕ) (header : List (List ℕ)) (rows : List (List Content)) → row_text (writer_of d) header ++ rows_text d (map (map (shown null)) rows) ≡ table_text d null header rows
unfolding rows_text
header-join d null header rows = refl

-- the range of all rows
pub range-whole : (d : ℕ) (null : List ℕ) (rows : List (List Content)) → range_text d null rows 0 (length rows) ≡ rows_text d (map (map (shown null)) rows)
range-whole d null rows =
    let all : take (length rows - 0) rows ≡ rows = take_all (length rows - 0) rows (omega arith) in
    ap (λ (r : List (List Content)). rows_text d (map (map (shown null)) r)) all

-- the text of a header and then that of the range of all rows
pub header-rows : (d : ℕ) (null : List ℕ) (header : List (List ℕ)) (rows : List (List Content)) → row_text (writer_of d) header ++ range_text d null rows 0 (length rows) ≡ table_text d null header rows
header-rows d null header rows = ap (λ t. row_text (writer_of d) header ++ t) (range-whole d null rows) ∙ header-join d null header rows
