-- Runs: how their left rows are counted within a segment, and how they follow one another.
use Rattle.std.proofs.Common.{◌≡◌, ℕ, ◌+◌, ◌-◌, ◌<◌, ◌≤◌, ◌^◌, List, [], ◌∷◌, ◌++◌, Some, All, refl, ap, sym, subst, ◌∙◌, arith, length, length-append, map, take, drop, get_or}
use Rattle.std.specs.Prelude.{max, slice_get}
use Rattle.std.proofs.lemmas.Grind.{flat_map-append}
use Rattle.std.proofs.lemmas.List.{append-nil, drop-drop, drop-map, drop-take, get_or-drop, get_or-take, length-drop, length-map, length-take-le, take-append-drop, take-map, take-take, take_more}
use Rattle.std.proofs.lemmas.Option.{get_or_from_slice_get}
use Rattle.std.proofs.Math.ListN.{get_or-map}
use Rattle.std.proofs.lemmas.List.Concat.{flat_map-append as flat_map-joined, get_or-flat_map}
use Rattle.std.proofs.lemmas.List.Elements.{All-drop, All-head, All-map, All-tail, All-take}
use Rattle.rj_columns.specs.Contents.{nothing}
use Rattle.rj_columns.specs.Scales.{coalesced, in_scale}
use Rattle.rj_columns.specs.Tables.{TableValue, cell_of, rows_of_all}
use Rattle.rj_engine.specs.declared.joined.JoinedRow.{JoinedRow}
use Rattle.rj_engine.specs.declared.joined.JoinedRow.TheVariants.{Both, LeftOnly, RightOnly}
use Rattle.rj_engine.specs.declared.origin.Origin.{Origin}
use Rattle.rj_engine.specs.declared.origin.Origin.TheVariants as origin
use Rattle.rj_engine.specs.declared.runs.Run.{Run}
use Rattle.rj_engine.specs.declared.shown.Shown.{Shown}
use Rattle.rj_engine.specs.Cells.{joined_cell, joined_cells, left_cell, right_cell, scale_of, shown_scale, IsColumnOf, IsMemberOf}
use Rattle.rj_engine.specs.Chosen.{shown_rows}
use Rattle.rj_engine.specs.Join.{JoinedValue}
use Rattle.rj_engine.proofs.Sections.{from-zero}
use Rattle.rj_engine.specs.Shown.{Follow, HasColumnsOf, IsRunOf, IsRunWithin, IsShownOf, StandsWithin, counted_from, rows_between, run_view, shown_view, start_of}

-- ---- left rows that are counted from another one on

-- from the first one on, nothing changes
pub counted-zero : (row : JoinedRow) → counted_from 0 row ≡ row
counted-zero (Both i j) = λ t. Both (from-zero i t) j
counted-zero (LeftOnly i) = λ t. LeftOnly (from-zero i t)
counted-zero (RightOnly j) = refl

pub all-counted-zero : (rows : List JoinedRow) → map (counted_from 0) rows ≡ rows
all-counted-zero [] = refl
all-counted-zero (row ∷ rows) = λ t. counted-zero row t ∷ all-counted-zero rows t

-- the right rows stay
pub right-counted : (r : TableValue) (col first : ℕ) (row : JoinedRow) → right_cell r (counted_from first row) col ≡ right_cell r row col
right-counted r col first (Both i j) = refl
right-counted r col first (LeftOnly i) = refl
right-counted r col first (RightOnly j) = refl

-- ---- parts

-- a part of a part
pub within-part : {X : Type 0} (from k n m : ℕ) (xs : List X) → k + n ≤ m → take n (drop k (take m (drop from xs))) ≡ take n (drop (from + k) xs)
within-part from k n m xs low =
    let e : m ≡ k + (m - k) = omega arith in
    ap (λ j. take n (drop k (take j (drop from xs)))) e ∙ (ap (take n) (drop-take k (m - k) (drop from xs))
    ∙ (take-take n (m - k) (drop k (drop from xs)) (omega arith) ∙ ap (take n) (drop-drop k from xs)))

pub length-between : {X : Type 0} (from to : ℕ) (xs : List X) → from ≤ to → to ≤ length xs → length (take (to - from) (drop from xs)) ≡ to - from
length-between from to xs order low = let rest = length-drop from xs in length-take-le (to - from) (drop from xs) (omega (arith, rest))

-- the member at a place of a part, counted from one on
pub run-place : (rows : List JoinedRow) (from n place first : ℕ) (m : JoinedRow) → place < n → slice_get rows (from + place) ≡ Some m
    → get_or (map (counted_from first) (take n (drop from rows))) place (counted_from first m) ≡ counted_from first m
run-place rows from n place first m low is =
    get_or-map (counted_from first) (take n (drop from rows)) place m
    ∙ ap (counted_from first) (get_or-take n (drop from rows) place m low ∙ (get_or-drop from rows place m ∙ get_or_from_slice_get rows (from + place) m m is))

-- the part of a part of the members, counted from one on
pub run-part : (rows : List JoinedRow) (from a b m first : ℕ) → a ≤ b → b ≤ m
    → map (counted_from first) (take ((from + b) - (from + a)) (drop (from + a) rows)) ≡ take (b - a) (drop a (map (counted_from first) (take m (drop from rows))))
run-part rows from a b m first order inside =
    let e : (from + b) - (from + a) ≡ b - a = omega arith in
    let part = within-part from a (b - a) m rows (omega (arith, order, inside)) in
    let mapped = take-map (counted_from first) (b - a) (drop a (take m (drop from rows))) in
    let dropped = drop-map (counted_from first) a (take m (drop from rows)) in
    ap (λ n. map (counted_from first) (take n (drop (from + a) rows))) e
    ∙ (ap (map (counted_from first)) (sym part) ∙ (sym mapped ∙ ap (take (b - a)) (sym dropped)))

-- how many members a run has
pub length-run : (s : Shown) (t r : TableValue) (v : JoinedValue) (run : Run) → IsRunWithin t r v s run → length (run_view s t r v run).cells ≡ run.to - run.from
length-run s t r v run h =
    let rows = shown_rows s.chosen v in
    let part = take (run.to - run.from) (drop run.from rows) in
    length-map (map (counted_from run.first) part) (joined_cells t r s.origins.items)
    ∙ (length-map part (counted_from run.first) ∙ length-between run.from run.to rows h.0 h.1)

-- places within a run are numbers that fit
pub fits-within : (from place to : ℕ) → from ≤ to → place ≤ to - from → to < 2 ^ 64 → from + place < 2 ^ 64
fits-within from place to order inside low = omega (arith, order, inside, low)

-- ---- segments

-- the next segment begins behind this one
pub start-next : (segments : List TableValue) (k : ℕ) (t : TableValue) → k < length segments → t ≡ get_or segments k t → start_of segments k + length t.rows ≡ start_of segments (k + 1)
start-next segments k t low is =
    let taken : take (k + 1) segments ≡ take k segments ++ t ∷ [] = take_more segments k t low ∙ ap (λ u. take k segments ++ u ∷ []) (sym is) in
    let joined = flat_map-joined (λ (u : TableValue). u.rows) (take k segments) (t ∷ []) ∙ ap (λ r. rows_of_all (take k segments) ++ r) (append-nil t.rows) in
    sym (ap length (ap rows_of_all taken ∙ joined) ∙ length-append (rows_of_all (take k segments)) t.rows)

-- no segment begins behind the last row
pub start-within : (segments : List TableValue) (k : ℕ) → start_of segments k ≤ length (rows_of_all segments)
start-within segments k =
    let all = ap rows_of_all (take-append-drop k segments) in
    let both = flat_map-append (λ (t : TableValue). t.rows) (take k segments) (drop k segments) in
    let sum = length-append (rows_of_all (take k segments)) (rows_of_all (drop k segments)) in
    let whole = ap length (sym both ∙ all) in
    omega (arith, sum, whole)

-- ---- the cells of a run

module _ (segments : List TableValue) (l r t : TableValue) (k : ℕ) (rows : l.rows ≡ rows_of_all segments) (types : t.types ≡ l.types) (low : k < length segments) (is : t ≡ get_or segments k t) where
  cell-there : (i col : ℕ) → start_of segments k ≤ i → i < start_of segments (k + 1) → cell_of t (i - start_of segments k) col ≡ cell_of l i col
  cell-there i col from to =
      let first = start_of segments k in
      let j = i - first in
      let next = start-next segments k t low is in
      let own : (get_or segments k t).rows ≡ t.rows = ap (λ (u : TableValue). u.rows) (sym is) in
      let here : j < length (get_or segments k t).rows = rw own (omega (arith, next, from, to)) in
      let at : first + j ≡ i = omega (arith, from) in
      let row : get_or t.rows j [] ≡ get_or l.rows i [] =
      ap (λ rs. get_or rs j []) (sym own) ∙ (sym (get_or-flat_map (λ (u : TableValue). u.rows) segments k j t [] low here)
      ∙ (ap (λ n. get_or (rows_of_all segments) n []) at ∙ ap (λ rs. get_or rs i []) (sym rows))) in
      ap (λ cells. get_or cells col nothing) row

  left-there : (row : JoinedRow) (col : ℕ) → StandsWithin (start_of segments k) (start_of segments (k + 1)) row → left_cell t (counted_from (start_of segments k) row) col ≡ left_cell l row col
  left-there (Both i j) col h = cell-there i col h.0 h.1
  left-there (LeftOnly i) col h = cell-there i col h.0 h.1
  left-there (RightOnly j) col h = refl

  joined-there : (row : JoinedRow) (o : Origin) → StandsWithin (start_of segments k) (start_of segments (k + 1)) row → joined_cell t r (counted_from (start_of segments k) row) o ≡ joined_cell l r row o
  joined-there row (origin.Coalesced a b) h =
      λ i. in_scale (max (scale_of (slice_get (types i) a)) (scale_of (slice_get r.types b))) (coalesced (left-there row a h i) (right-counted r b (start_of segments k) row i))
  joined-there row (origin.Left a) h = left-there row a h
  joined-there row (origin.Right b) h = right-counted r b (start_of segments k) row

  cells-there : (os : List Origin) (ms : List JoinedRow) → All (StandsWithin (start_of segments k) (start_of segments (k + 1))) ms
      → map (joined_cells t r os) (map (counted_from (start_of segments k)) ms) ≡ map (joined_cells l r os) ms
  cells-there os [] h = refl
  cells-there os (row ∷ ms) h =
      let Stands : JoinedRow → Type 0 = StandsWithin (start_of segments k) (start_of segments (k + 1)) in
      let here = All-head Stands row ms h in
      let rest = All-tail Stands row ms h in
      λ i. map (λ o. joined-there row o here i) os ∷ cells-there os ms rest i

  member-there : (row : JoinedRow) → StandsWithin (start_of segments k) (start_of segments (k + 1)) row → IsMemberOf l r row → IsMemberOf t r (counted_from (start_of segments k) row)
  member-there (Both i j) h m = let next = start-next segments k t low is in (omega (arith, next, h.0, h.1), m.1)
  member-there (LeftOnly i) h m = let next = start-next segments k t low is in (omega (arith, next, h.0, h.1), tt)
  member-there (RightOnly j) h m = (tt, m.1)

  column-there : (o : Origin) → IsColumnOf l r o → IsColumnOf t r o
  column-there (origin.Coalesced a b) h = (subst (λ ts. a < length ts) (sym types) h.0, h.1)
  column-there (origin.Left a) h = subst (λ ts. a < length ts) (sym types) h
  column-there (origin.Right b) h = h

  scale-there : (o : Origin) → shown_scale l r o ≡ shown_scale t r o
  scale-there (origin.Coalesced a b) = ap (λ ts. max (scale_of (slice_get ts a)) (scale_of (slice_get r.types b))) (sym types)
  scale-there (origin.Left a) = refl
  scale-there (origin.Right b) = refl

  columns-there : (s : Shown) → HasColumnsOf l r s → HasColumnsOf t r s
  columns-there s h = (λ i d lt. column-there _ (h.0 i d lt), h.1 ∙ (λ i. map (λ o. scale-there o i) s.origins.items))

-- a run is within its segment
pub run-within : (segments : List TableValue) (l r t : TableValue) (v : JoinedValue) (s : Shown) (run : Run) → l.rows ≡ rows_of_all segments → t.types ≡ l.types
    → IsRunOf segments (shown_rows s.chosen v) run → t ≡ get_or segments run.segment t → IsShownOf l r v s → IsRunWithin t r v s run
run-within segments l r t v s run rows types of is h =
    let first = start_of segments run.segment in
    let all = shown_rows s.chosen v in
    let ms = rows_between run.from run.to all in
    let members : All (IsMemberOf l r) ms = All-take (IsMemberOf l r) (run.to - run.from) (drop run.from all) (All-drop (IsMemberOf l r) run.from all h.0) in
    let within : All (StandsWithin first (start_of segments (run.segment + 1))) ms = subst (λ n. All (StandsWithin n (start_of segments (run.segment + 1))) ms) of.first of.within in
    let there : All (λ row. IsMemberOf t r (counted_from first row)) ms = λ i d lt. member-there segments l r t run.segment rows types of.segment is _ (within i d lt) (members i d lt) in
    let mapped : All (IsMemberOf t r) (map (counted_from first) ms) = All-map (IsMemberOf t r) (counted_from first) ms there in
    (of.order, of.to, subst (λ n. All (IsMemberOf t r) (map (counted_from n) ms)) (sym of.first) mapped, columns-there segments l r t run.segment rows types of.segment is s h.1)

-- and its rows of cells are those of the whole
pub run-cells : (segments : List TableValue) (l r t : TableValue) (v : JoinedValue) (s : Shown) (run : Run) → l.rows ≡ rows_of_all segments → t.types ≡ l.types
    → IsRunOf segments (shown_rows s.chosen v) run → t ≡ get_or segments run.segment t
    → (run_view s t r v run).cells ≡ take (run.to - run.from) (drop run.from (shown_view s l r v).cells)
run-cells segments l r t v s run rows types of is =
    let all = shown_rows s.chosen v in
    let os = s.origins.items in
    let ms = rows_between run.from run.to all in
    let within = subst (λ n. All (StandsWithin n (start_of segments (run.segment + 1))) ms) of.first of.within in
    ap (λ n. map (joined_cells t r os) (map (counted_from n) ms)) of.first
    ∙ (cells-there segments l r t run.segment rows types of.segment is os ms within
    ∙ (sym (take-map (joined_cells l r os) (run.to - run.from) (drop run.from all)) ∙ ap (take (run.to - run.from)) (sym (drop-map (joined_cells l r os) run.from all))))

-- ---- runs that follow one another

pub Follow-none : (from : ℕ) → Follow from from []
unfolding Follow
Follow-none from = refl

pub Follow-more : (from to : ℕ) (runs : List Run) (run : Run) → Follow from to runs → run.from ≡ to → Follow from run.to (runs ++ run ∷ [])
unfolding Follow
Follow-more from to [] run h is = (is ∙ sym h, refl)
Follow-more from to (one ∷ runs) run h is = (h.0, Follow-more one.to to runs run h.1 is)
