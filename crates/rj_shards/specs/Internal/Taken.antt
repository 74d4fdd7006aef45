-- A text whose first bytes are removed. Internal: no public contract uses it.
use Rattle.std.specs.Prelude.{ℕ, ◌+◌, ◌≡◌, ◌≤◌, List, ◌++◌, length, Option, Some}
use Rattle.rj_csv_io.specs.Pieces.{IsLineEnd}

-- a text whose first bytes are removed, in at least this many pieces: the others are those that
-- were read, in which no record ends by this delimiter, and those that the device tells
pub record IsTaken (d : ℕ) (text : List ℕ) (tells : Option (List ℕ)) (bytes : List ℕ) (pieces : ℕ) : Type 0 where
  pub left : List ℕ
  pub told : tells ≡ Some left
  pub taken : List ℕ
  pub order : text ≡ taken ++ (bytes ++ left)
  pub none : (at : ℕ) → at ≤ length bytes → IsLineEnd d bytes at → ⊥
  pub shorter : pieces + length (bytes ++ left) ≤ length text
