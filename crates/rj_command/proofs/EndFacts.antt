-- The rows of a run by their fronts and their ends.
use Rattle.std.proofs.Common.{◌≡◌, ℕ, ◌+◌, ◌<◌, List, [], ◌∷◌, ◌++◌, All, refl, ap, sym, subst, ◌∙◌, arith, length, map, min, take, drop, get_or}
use Rattle.std.proofs.Math.ListN.{get_or-append}
use Rattle.std.proofs.lemmas.List.{drop-map, get_or-map, get_or_push, length-append, length-map, length-take, take-append-drop}
use Rattle.std.proofs.lemmas.List.Elements.{All-map}
use Rattle.std.proofs.lemmas.Simd.{map-map}
use Rattle.rj_columns.specs.Contents.{Content}
use Rattle.rj_columns.specs.Tables.{TableValue, cell_of}
use Rattle.rj_csv_io.specs.Columns.{end_of, ends_of}
use Rattle.rj_csv_io.specs.Ends.{AreEnded, IsEnded, end_at, end_text, nulls, record_of}
use Rattle.rj_csv_io.specs.declared.ends.RowEnds.{RowEnds}
use Rattle.rj_csv_io.proofs.EndFacts.{nulls-map}
use Rattle.rj_engine.specs.declared.joined.JoinedRow.{JoinedRow}
use Rattle.rj_engine.specs.declared.joined.JoinedRow.TheVariants.{Both, LeftOnly, RightOnly}
use Rattle.rj_engine.specs.declared.origin.Origin.TheVariants as origin
use Rattle.rj_engine.specs.declared.runs.Run.{Run}
use Rattle.rj_engine.specs.declared.shown.Shown.{Shown}
use Rattle.rj_engine.specs.Cells.{joined_cell, joined_cells, right_cell, IsRightRow}
use Rattle.rj_engine.specs.Chosen.{shown_rows}
use Rattle.rj_engine.specs.Ends.{right_row}
use Rattle.rj_engine.specs.Join.{JoinedValue}
use Rattle.rj_engine.specs.Shown.{IsRunWithin, counted_from, rows_between, run_rows, run_view}
use Rattle.rj_command.specs.declared.join.ends.Ends.{Ends}
use Rattle.rj_command.specs.Internal.Ends.{AreEndsOf}

-- the right rows stay where left rows are counted from another one on
right-rows-counted : (none first : ℕ) (rows : List JoinedRow) → map (right_row none) rows ≡ map (right_row none) (map (counted_from first) rows)
right-rows-counted none first [] = refl
right-rows-counted none first (Both i j ∷ rows) = ap (λ t. j ∷ t) (right-rows-counted none first rows)
right-rows-counted none first (LeftOnly i ∷ rows) = ap (λ t. none ∷ t) (right-rows-counted none first rows)
right-rows-counted none first (RightOnly j ∷ rows) = ap (λ t. j ∷ t) (right-rows-counted none first rows)

module _ (d : ℕ) (null : List ℕ) (s : Shown) (r : TableValue) (e : Ends) (is : AreEndsOf d null s r e) where
  own : List (List ℕ)
  own = map (record_of d null) (ends_of is.columns r.rows)

  long : length own ≡ length r.rows
  unfolding own
  long = length-map (ends_of is.columns r.rows) (record_of d null) ∙ length-map r.rows (end_of is.columns)

  -- the text of a right row
  text-of-row : (j : ℕ) → j < length r.rows → get_or e.texts j [] ≡ end_text d null (map (λ c. cell_of r j c) is.columns)
  unfolding own
  text-of-row j low =
      let there : j < length (ends_of is.columns r.rows) = subst (λ n. j < n) (sym (length-map r.rows (end_of is.columns))) low in
      let inside : j < length own = subst (λ n. j < n) (sym long) low in
      ap (λ ts. get_or ts j []) is.texts
      ∙ (get_or-append own (end_text d null (nulls (length is.columns)) ∷ []) [] j inside
      ∙ (get_or-map (record_of d null) (ends_of is.columns r.rows) j [] [] there ∙ ap (record_of d null) (get_or-map (end_of is.columns) r.rows j [] [] low)))

  -- the text of a member's end
  text-of-member : (m : JoinedRow) → IsRightRow r m → get_or e.texts (right_row (length r.rows) m) [] ≡ end_text d null (map (λ b. right_cell r m b) is.columns)
  unfolding own
  text-of-member (Both i j) low = text-of-row j low
  text-of-member (RightOnly j) low = text-of-row j low
  text-of-member (LeftOnly i) low =
      ap (λ ts. get_or ts (length r.rows) []) is.texts
      ∙ (get_or_push own (end_text d null (nulls (length is.columns))) [] (length r.rows) long ∙ ap (end_text d null) (sym (nulls-map is.columns)))

  many-texts : length e.texts ≡ length r.rows + 1
  unfolding own
  many-texts = ap length is.texts ∙ (length-append own (end_text d null (nulls (length is.columns)) ∷ []) ∙ ap (λ n. n + 1) long)

  number-there : (m : JoinedRow) → IsRightRow r m → right_row (length r.rows) m < length e.texts
  number-there (Both i j) low = omega (arith, many-texts, low)
  number-there (RightOnly j) low = omega (arith, many-texts, low)
  number-there (LeftOnly i) low = omega (arith, many-texts)

  -- there is a text for the end of each member of a run
  pub numbers-there : (t : TableValue) (v : JoinedValue) (run : Run) → IsRunWithin t r v s run
      → All (λ n. n < length e.texts) (map (right_row (length r.rows)) (rows_between run.from run.to (shown_rows s.chosen v)))
  numbers-there t v run within =
      let n = length r.rows in
      let ms = run_rows s v run in
      let all : All (λ k. k < length e.texts) (map (right_row n) ms) =
      All-map (λ k. k < length e.texts) (right_row n) ms (λ i d lt. number-there _ (within.2 i d lt).1) in
      subst (All (λ k. k < length e.texts)) (sym (right-rows-counted n run.first (rows_between run.from run.to (shown_rows s.chosen v)))) all

  -- a member's row by its front and its end
  member-ended : (t : TableValue) (m : JoinedRow) (front row : List Content) (text : List ℕ) → IsRightRow r m → row ≡ joined_cells t r s.origins.items m
      → front ≡ take e.front row → text ≡ get_or e.texts (right_row (length r.rows) m) [] → IsEnded d null front row text
  member-ended t m front row text low row_is front_is text_is =
      let os = s.origins.items in
      let f = joined_cell t r m in
      let wide : length front ≡ min e.front (length os) = ap length front_is ∙ (length-take e.front row ∙ ap (min e.front) (ap length row_is ∙ length-map os f)) in
      let others : drop e.front row ≡ map (λ b. right_cell r m b) is.columns =
      ap (drop e.front) row_is ∙ (drop-map f e.front os ∙ (ap (map f) (sym is.right) ∙ map-map f (λ b. origin.Right b) is.columns)) in
      record {
        cells = map (λ b. right_cell r m b) is.columns;
        wide = omega (arith, wide, is.wide, is.few);
        some = omega (arith, is.some, length-map is.columns (λ b. right_cell r m b));
        row_is = sym (take-append-drop e.front row) ∙ (λ t. sym front_is t ++ others t);
        text_is = text_is ∙ text-of-member m low;
      }

  -- the rows of a run by their fronts and their ends
  pub run-ended : (t : TableValue) (v : JoinedValue) (run : Run) (ends : RowEnds) → IsRunWithin t r v s run → ends.texts.now ≡ e.texts
      → ends.numbers.now ≡ map (right_row (length r.rows)) (rows_between run.from run.to (shown_rows s.chosen v))
      → AreEnded d null (map (take e.front) (run_view s t r v run).cells) (run_view s t r v run).cells ends
  run-ended t v run ends within texts numbers =
      let os = s.origins.items in
      let ms = run_rows s v run in
      let cells = map (joined_cells t r os) ms in
      let n = length r.rows in
      let all : ends.numbers.now ≡ map (right_row n) ms = numbers ∙ right-rows-counted n run.first (rows_between run.from run.to (shown_rows s.chosen v)) in
      let many = length-map cells (take {A = Content} e.front) in
      let size = length-map ms (joined_cells t r os) in
      record {
        count = sym many;
        each = λ i lt.
            let here : i < length cells = omega (arith, many, lt) in
            let low : i < length ms = omega (arith, size, here) in
            let m = get_or ms i (RightOnly 0) in
            let row = get_or-map (joined_cells t r os) ms i (RightOnly 0) [] low in
            let front = get_or-map (take e.front) cells i [] [] here in
            let number = ap (λ ns. get_or ns i 0) all ∙ get_or-map (right_row n) ms i (RightOnly 0) 0 low in
            let member = within.2 i (RightOnly 0) low in
            member-ended t m _ _ (end_at ends i) member.1 row front (λ k. get_or (texts k) (number k) []);
      }
