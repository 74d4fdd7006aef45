-- Cells that can't be told from NULL in their text: not NULL, and written as NULL is.
use Rattle.std.specs.Prelude.{ℕ, ◌-◌, ◌<◌, ◌≡◌, ◌≢◌, Bool, true, false, List}
use Rattle.std.specs.Str.{bytes_eq}
use Rattle.rj_columns.specs.Contents.{Content, nothing, whole, decimal, word}
use Rattle.rj_columns.specs.Tables.{cell_in}
use Rattle.rj_csv_io.specs.Shown.{shown}

-- a cell that isn't NULL and whose text is the NULL text
abbrev pub is_ambiguous : List ℕ → Content → Bool
is_ambiguous null nothing = false
is_ambiguous null (whole n) = bytes_eq (shown null (whole n)) null
is_ambiguous null (decimal units scale) = bytes_eq (shown null (decimal units scale)) null
is_ambiguous null (word s) = bytes_eq (shown null (word s)) null

-- no cell of a row is such a one
abbrev pub IsClearRow : List ℕ → List (List Content) → ℕ → Type 0
IsClearRow null rows row = (col : ℕ) → is_ambiguous null (cell_in rows row col) ≡ false

-- no cell of these rows is
abbrev pub AreClear : List ℕ → List (List Content) → Type 0
AreClear null rows = (row : ℕ) → IsClearRow null rows row

-- the first one of a row
pub record IsFirstInRow (null : List ℕ) (rows : List (List Content)) (row col : ℕ) : Type 0 where
  pub here : is_ambiguous null (cell_in rows row col) ≡ true
  pub before : (c : ℕ) → c < col → is_ambiguous null (cell_in rows row c) ≡ false

-- the first one of all, by rows and then by columns, both counted from 1
pub record IsFirstAmbiguous (null : List ℕ) (rows : List (List Content)) (row column : ℕ) : Type 0 where
  pub from_one : 0 < row
  pub column_from_one : 0 < column
  pub first : IsFirstInRow null rows (row - 1) (column - 1)
  pub above : (r : ℕ) → r < row - 1 → IsClearRow null rows r

-- no cell of these rows is this text
abbrev pub AreApart : List ℕ → List (List Content) → Type 0
AreApart text rows = (row col : ℕ) → cell_in rows row col ≢ word text
