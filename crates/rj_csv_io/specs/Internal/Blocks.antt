-- The cells of a block of rows, column by column. Internal: no public contract uses it.
use Rattle.std.specs.Prelude.{ℕ, zero, suc, ◌+◌, ◌-◌, ◌≡◌, ◌≤◌, List, [], ◌++◌, map, length}
use Rattle.rj_columns.specs.Contents.{Content, content_of}
use Rattle.rj_columns.specs.Tables.{part_of}
use Rattle.rj_csv_io.specs.declared.block.RowBlock.{RowBlock}

-- the parts of the first columns, one after the other
unfoldable pub block_of : List (List Content) → ℕ → ℕ → ℕ → List Content
block_of rows from n zero = []
block_of rows from n (suc width) = block_of rows from n width ++ part_of rows width from n

-- a block holds the cells of some of the rows
pub record Holds (rows : List (List Content)) (width : ℕ) (b : RowBlock) : Type 0 where
  pub order : b.from ≤ b.to
  pub inside : b.to ≤ length rows
  pub cells : map content_of b.cells.items ≡ block_of rows b.from (b.to - b.from) width

-- where a column's part begins
unfoldable pub offset : ℕ → ℕ → ℕ
offset n zero = 0
offset n (suc col) = offset n col + n
