-- The cells of some columns of rows.
use Rattle.std.proofs.Common.{◌≡◌, ◌∙◌, ◌<◌, ◌≤◌, ◌+◌, ℕ, zero, suc, List, [], ◌∷◌, ◌++◌, All, length, map, min, take, refl, sym, ap, arith}
use Rattle.std.specs.Prelude.{slice_index_or}
use Rattle.std.proofs.Math.ListN.{get_or-eq_default}
use Rattle.std.proofs.Math.ListN.{get_or-map as get_or-mapped}
use Rattle.std.proofs.Math.Seq.{take-nil}
use Rattle.std.proofs.lemmas.List.{get_or-map, get_or-take, length-map, length-take}
use Rattle.std.proofs.lemmas.List.Elements.{All-map}
use Rattle.rj_columns.specs.Contents.{Content, nothing, word}
use Rattle.rj_columns.specs.Tables.{cell_in, part_of}
use Rattle.rj_csv_io.specs.Columns.{end_of, ends_of}

-- ---- the first columns

module _ (n : ℕ) (rows : List (List Content)) where
  first-row : (row : ℕ) → slice_index_or (map (take n) rows) row [] ≡ take n (slice_index_or rows row [])
  first-row row =
      let none : take n [] ≡ [] = take-nil n in
      ap (slice_index_or (map (take n) rows) row) (sym none) ∙ get_or-mapped (take n) rows row []

  pub first-cell : (row col : ℕ) → col < n → cell_in (map (take n) rows) row col ≡ cell_in rows row col
  first-cell row col low = ap (λ (r : List Content). slice_index_or r col nothing) (first-row row) ∙ get_or-take n (slice_index_or rows row []) col nothing low

  pub first-part : (col from k : ℕ) → col < n → part_of (map (take n) rows) col from k ≡ part_of rows col from k
  unfolding part_of
  first-part col from zero low = refl
  first-part col from (suc k) low = λ t. first-part col from k low t ++ first-cell (from + k) col low t ∷ []

  pub first-wide : (width : ℕ) → All (λ (r : List Content). length r ≡ width) rows → All (λ (r : List Content). length r ≡ min n width) (map (take n) rows)
  first-wide width wide =
      All-map (λ (r : List Content). length r ≡ min n width) (take n) rows (λ i d low. length-take n _ ∙ ap (min n) (wide i d low))

-- ---- the ends

module _ (columns : List ℕ) (rows : List (List Content)) where
  pub length-ends : length (ends_of columns rows) ≡ length rows
  length-ends = length-map rows (end_of columns)

  end-at : (row : ℕ) → row < length rows → slice_index_or (ends_of columns rows) row [] ≡ end_of columns (slice_index_or rows row [])
  end-at row low = get_or-map (end_of columns) rows row [] [] low

  pub end-first : (row : ℕ) → row < length rows → cell_in (ends_of columns rows) row 0 ≡ word []
  end-first row low = ap (λ (r : List Content). slice_index_or r 0 nothing) (end-at row low)

  -- behind the first column
  pub end-cell : (row before col : ℕ) → row < length rows → col ≡ suc before → before < length columns
      → cell_in (ends_of columns rows) row col ≡ cell_in rows row (slice_index_or columns before 0)
  end-cell row before col low next there =
      ap (cell_in (ends_of columns rows) row) next
      ∙ (ap (λ (r : List Content). slice_index_or r (suc before) nothing) (end-at row low)
      ∙ get_or-map (λ c. slice_index_or (slice_index_or rows row []) c nothing) columns before 0 nothing there)

  pub end-part : (before col from k : ℕ) → from + k ≤ length rows → col ≡ suc before → before < length columns
      → part_of (ends_of columns rows) col from k ≡ part_of rows (slice_index_or columns before 0) from k
  unfolding part_of
  end-part before col from zero low next there = refl
  end-part before col from (suc k) low next there =
      λ t. end-part before col from k (omega arith) next there t ++ end-cell (from + k) before col (omega arith) next there t ∷ []

  pub end-wide : All (λ (r : List Content). length r ≡ length columns + 1) (ends_of columns rows)
  end-wide =
      All-map (λ (r : List Content). length r ≡ length columns + 1) (end_of columns) rows
      (λ i d low. let size = length-map columns (λ c. slice_index_or (slice_index_or rows i d) c nothing) in omega (arith, size))

-- there is no cell behind the last one
pub none-there : (rows : List (List Content)) (width row col : ℕ) → All (λ (r : List Content). length r ≡ width) rows → row < length rows → width ≤ col → cell_in rows row col ≡ nothing
none-there rows width row col wide low past =
    let size = wide row [] low in get_or-eq_default (slice_index_or rows row []) nothing (omega (arith, size, past))
