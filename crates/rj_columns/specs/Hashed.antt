-- Hashes that take up cells.
use Rattle.std.specs.Prelude.{ℕ, ◌+◌, ◌≡◌, ◌<◌, ◌≤◌, List, Option, None, All, length, slice_index_or}
use Rattle.rj_columns.specs.Contents.{Content}

-- each hash has taken up the cell at its row
pub record HaveTaken (added : Option ℕ → Content → Option ℕ) (cell : ℕ → Content) (rows : List ℕ) (before after : List (Option ℕ)) : Type 0 where
  pub len : length after ≡ length before
  pub each : (k : ℕ) → k < length rows → slice_index_or after k None ≡ added (slice_index_or before k None) (cell (slice_index_or rows k 0))

-- rows that are counted from one on, for each of which there is a value
abbrev pub AreRowsOf : {A : Type 0} → List A → ℕ → List ℕ → Type 0
AreRowsOf values from rows = All (λ r. (from ≤ r) × (r < from + length values)) rows
