-- Where a cell of a block stands.
use Rattle.std.proofs.Common.{◌≡◌, ◌≤◌, ◌<◌, ◌+◌, ◌-◌, ◌∙◌, ℕ, zero, suc, List, [], ◌∷◌, ◌++◌, map, length, refl, sym, ap, arith, inl, inr, add-one, take}
use Rattle.std.specs.Prelude.{slice_index_or}
use Rattle.std.proofs.lemmas.Bool.{cases_lt}
use Rattle.std.proofs.lemmas.List.{length-append, length-map, get_or_push, get_or-append-add, get_or-map, map-append, take_more}
use Rattle.std.proofs.Math.ListN.{get_or-append}
use Rattle.rj_columns.specs.Contents.{Content, content_of, nothing}
use Rattle.rj_columns.specs.declared.cell.Cell.{Cell}
use Rattle.rj_csv_io.specs.declared.block.RowBlock.{RowBlock}
use Rattle.rj_csv_io.specs.Shown.{shown}
use Rattle.rj_columns.specs.Tables.{cell_in, part_of}
use Rattle.rj_csv_io.specs.Internal.Blocks.{block_of, offset, Holds}

pub length-part : (rows : List (List Content)) (col from n : ℕ) → length (part_of rows col from n) ≡ n
unfolding part_of
length-part rows col from zero = refl
length-part rows col from (suc n) = omega (arith, length-append (part_of rows col from n) (cell_in rows (from + n) col ∷ []), length-part rows col from n)

pub part-more : (rows : List (List Content)) (col from n : ℕ) → part_of rows col from (n + 1) ≡ part_of rows col from n ++ cell_in rows (from + n) col ∷ []
unfolding part_of
part-more rows col from n = rw add-one refl

pub part-none : (rows : List (List Content)) (col from : ℕ) → part_of rows col from 0 ≡ []
unfolding part_of
part-none rows col from = refl

pub block-more : (rows : List (List Content)) (from n width : ℕ) → block_of rows from n (width + 1) ≡ block_of rows from n width ++ part_of rows width from n
unfolding block_of
block-more rows from n width = rw add-one refl

pub block-none : (rows : List (List Content)) (from n : ℕ) → block_of rows from n 0 ≡ []
unfolding block_of
block-none rows from n = refl

pub part-at : (rows : List (List Content)) (col from n r : ℕ) → r < n → slice_index_or (part_of rows col from n) r nothing ≡ cell_in rows (from + r) col
unfolding part_of
part-at rows col from zero r h = absurd (omega arith)
part-at rows col from (suc n) r h =
    let size = length-part rows col from n in
    elim (cases_lt r n) [
      | inl low ↦
          let inside : r < length (part_of rows col from n) = omega arith in
          rw (get_or-append (part_of rows col from n) (cell_in rows (from + n) col ∷ []) nothing r inside) (part-at rows col from n r low)
      | inr last ↦ let e : length (part_of rows col from n) ≡ r = omega arith in let f : r ≡ n = omega arith in rw (get_or_push (part_of rows col from n) (cell_in rows (from + n) col) nothing r e, f) refl
    ]

pub offset-none : (n : ℕ) → offset n 0 ≡ 0
unfolding offset
offset-none n = refl

pub offset-more : (n col : ℕ) → offset n (col + 1) ≡ offset n col + n
unfolding offset
offset-more n col = rw add-one refl

pub length-block : (rows : List (List Content)) (from n width : ℕ) → length (block_of rows from n width) ≡ offset n width
unfolding block_of offset
length-block rows from n zero = refl
length-block rows from n (suc width) =
    omega (arith, length-append (block_of rows from n width) (part_of rows width from n), length-block rows from n width, length-part rows width from n)

-- the part of a column ends before the block does
pub offset-inside : (n col width : ℕ) → col < width → offset n col + n ≤ offset n width
unfolding offset
offset-inside n col zero h = absurd (omega arith)
offset-inside n col (suc width) h = elim (cases_lt col width) [
  | inl low ↦ let more = offset-inside n col width low in omega arith
  | inr last ↦ let e : col ≡ width = omega arith in rw e (omega arith)
]

pub block-at : (rows : List (List Content)) (from n width col r : ℕ) → col < width → r < n → slice_index_or (block_of rows from n width) (offset n col + r) nothing ≡ cell_in rows (from + r) col
unfolding block_of
block-at rows from n zero col r h k = absurd (omega arith)
block-at rows from n (suc width) col r h k =
    let size = length-block rows from n width in
    elim (cases_lt col width) [
      | inl low ↦
          let fits = offset-inside n col width low in
          let inside : offset n col + r < length (block_of rows from n width) = omega arith in
          rw (get_or-append (block_of rows from n width) (part_of rows width from n) nothing (offset n col + r) inside) (block-at rows from n width col r low k)
      | inr last ↦
          let e : col ≡ width = omega arith in
          rw (e, ← size, get_or-append-add (block_of rows from n width) (part_of rows width from n) r nothing) (part-at rows width from n r k)
    ]

pub block-step : (rows : List (List Content)) (from n width : ℕ) (old now : List Content) → now ≡ old ++ part_of rows width from n → old ≡ block_of rows from n width → now ≡ block_of rows from n (width + 1)
block-step rows from n width old now h e = h ∙ (ap (λ t. t ++ part_of rows width from n) e ∙ sym (block-more rows from n width))

-- the place of a cell in a block
pub place : (rows : List (List Content)) (width row col : ℕ) (b : RowBlock) → Holds rows width b → b.from ≤ row → row < b.to → col < width
    → (offset (b.to - b.from) col + (row - b.from) < length b.cells.items) × (offset (b.to - b.from) col + (b.to - b.from) ≤ length b.cells.items)
place rows width row col b h low high inside =
    let size : length (map content_of b.cells.items) ≡ length b.cells.items = length-map b.cells.items content_of in
    let all : length (map content_of b.cells.items) ≡ offset (b.to - b.from) width = ap length h.cells ∙ length-block rows b.from (b.to - b.from) width in
    let fits = offset-inside (b.to - b.from) col width inside in
    (omega arith, omega arith)

pub placed : (rows : List (List Content)) (width row col : ℕ) (b : RowBlock) (i : ℕ) (x : Cell) → Holds rows width b → b.from ≤ row → row < b.to → col < width
    → i ≡ offset (b.to - b.from) col + (row - b.from) → x ≡ slice_index_or b.cells.items i x → content_of x ≡ cell_in rows row col
placed rows width row col b i x h low high inside at e =
    let there = (place rows width row col b h low high inside).0 in
    let i_in : i < length b.cells.items = omega arith in
    let same = get_or-map content_of b.cells.items i x nothing i_in in
    let r : row - b.from < b.to - b.from = omega arith in
    let back : b.from + (row - b.from) ≡ row = omega arith in
    let found = block-at rows b.from (b.to - b.from) width col (row - b.from) inside r in
    ap content_of e ∙ (sym same ∙ (ap (λ t. slice_index_or t i nothing) h.cells ∙ (ap (λ k. slice_index_or (block_of rows b.from (b.to - b.from) width) k nothing) at ∙ (found ∙ ap (λ k. cell_in rows k col) back))))

-- one more text of a row
pub row-more : (null : List ℕ) (cells : List Content) (i : ℕ) (before after : List (List ℕ)) (x : Content) → i < length cells → before ≡ map (shown null) (take i cells)
    → x ≡ slice_index_or cells i nothing → after ≡ before ++ shown null x ∷ [] → after ≡ map (shown null) (take (i + 1) cells)
row-more null cells i before after x h b e a =
    let more = take_more cells i nothing h in
    a ∙ rw (more, map-append, b, e) refl
