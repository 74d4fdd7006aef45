-- Rows with their places, and those of one part.
use Rattle.std.specs.Prelude.{ℕ, ◌+◌, ◌==◌, pos, List, [], ◌∷◌, ◌++◌, map, filter, length, slice_index_or, Some}
use Rattle.std.specs.List.{range_with_len, zip}
use Rattle.rj_columns.specs.Contents.{Content, nothing, whole}
use Rattle.rj_radix.specs.Groups.{group}

-- a row with its place as one more cell, a whole number
abbrev pub with_place : ℕ → List Content → List Content
with_place place row = row ++ whole (pos place) ∷ []

-- the rows with their places, which count on from that of the first one
abbrev pub placed : ℕ → List (List Content) → List (List Content × ℕ)
placed first rows = zip rows (range_with_len first (length rows))

-- the rows of one part, in order, each with its place
unfoldable pub part_rows : (List Content → ℕ) → ℕ → ℕ → List (List Content) → List (List Content)
part_rows part p first rows = map (λ x. with_place x.1 x.0) (filter (λ x. part x.0 == p) (placed first rows))

-- the numbers of the rows of one part, counted from 0
abbrev pub numbers_of : (List Content → ℕ) → ℕ → List (List Content) → List ℕ
numbers_of part p rows = group (range_with_len 0 (length rows)) (map (λ r. Some (part r)) rows) p

-- the rows with these numbers, each with its place
abbrev pub rows_at : List (List Content) → ℕ → List ℕ → List (List Content)
rows_at rows first numbers = map (λ i. with_place (first + i) (slice_index_or rows i [])) numbers

-- the cell of a row and its place at a column
abbrev pub placed_cell_of : List (List Content) → ℕ → ℕ → ℕ → Content
placed_cell_of rows first i col = slice_index_or (with_place (first + i) (slice_index_or rows i [])) col nothing

-- some rows of cells, and how many cells each has
pub record PlacedValue : Type 0 where
  pub cells : List (List Content)
  pub width : ℕ
