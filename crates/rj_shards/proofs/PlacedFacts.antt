-- Rows with their places, cell by cell.
use Rattle.std.proofs.Common.{◌≡◌, ℕ, zero, suc, ◌+◌, ◌<◌, ◌≤◌, List, [], ◌∷◌, ◌++◌, All, refl, ap, sym, ◌∙◌, arith, pos, length, length-append, map, take, drop, get_or}
use Rattle.std.proofs.lemmas.List.{get_or-drop, get_or-map, length-drop, length-map, map_more}
use Rattle.rj_columns.specs.Contents.{Content, nothing, whole}
use Rattle.rj_columns.specs.Tables.{cell_in, part_of}
use Rattle.rj_shards.specs.Placed.{placed_cell_of, rows_at, with_place}

-- the cell of a row among some
cell-among : (rows : List (List Content)) (first : ℕ) (numbers : List ℕ) (k col : ℕ) → k < length numbers
    → cell_in (rows_at rows first numbers) k col ≡ placed_cell_of rows first (get_or numbers k 0) col
cell-among rows first numbers k col h =
    ap (λ r. get_or r col nothing) (get_or-map (λ i. with_place (first + i) (get_or rows i [])) numbers k 0 [] h)

-- the cells of a column of some rows
pub column-among : (rows : List (List Content)) (first : ℕ) (numbers : List ℕ) (col from n : ℕ) → from + n ≤ length numbers
    → map (λ i. placed_cell_of rows first i col) (take n (drop from numbers)) ≡ part_of (rows_at rows first numbers) col from n
unfolding part_of
column-among rows first numbers col from zero h = refl
column-among rows first numbers col from (suc n) h =
    let f : ℕ → Content = λ i. placed_cell_of rows first i col in
    let len : n < length (drop from numbers) = omega (arith, length-drop from numbers, h) in
    let s : suc n ≡ n + 1 = omega arith in
    let at = cell-among rows first numbers (from + n) col (omega (arith, h)) ∙ ap f (sym (get_or-drop from numbers n 0)) in
    ap (λ k. map f (take k (drop from numbers))) s
    ∙ (map_more f (drop from numbers) n 0 len
    ∙ (λ i. column-among rows first numbers col from n (omega (arith, h)) i ++ sym at i ∷ []))

-- each row has one cell more
pub rows-wide : (rows : List (List Content)) (width first : ℕ) (numbers : List ℕ) → All (λ (r : List Content). length r ≡ width) rows → All (λ i. i < length rows) numbers
    → All (λ (r : List Content). length r ≡ width + 1) (rows_at rows first numbers)
rows-wide rows width first numbers wide low k d h =
    let inside : k < length numbers = omega (arith, h, length-map numbers (λ i. with_place (first + i) (get_or rows i []))) in
    let at = get_or-map (λ i. with_place (first + i) (get_or rows i [])) numbers k 0 d inside in
    let size : length (get_or rows (get_or numbers k 0) []) ≡ width = wide (get_or numbers k 0) [] (low k 0 inside) in
    ap length at ∙ (length-append (get_or rows (get_or numbers k 0) []) (whole (pos (first + get_or numbers k 0)) ∷ []) ∙ ap (λ n. n + 1) size)
