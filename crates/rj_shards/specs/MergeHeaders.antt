-- Where the places are under a header.
use Rattle.std.specs.Prelude.{ℕ, ◌+◌, List, [], ◌∷◌, length, codes, if◌then◌else◌, Option, None, Some}
use Rattle.std.specs.Str.{bytes_eq}
use Rattle.rj_shards.specs.declared.merge.columns.Columns.{Columns}

-- the names of the two columns of a place
abbrev pub left_name : List ℕ
left_name = codes "left_place"

abbrev pub right_name : List ℕ
right_name = codes "right_place"

-- the columns of this name, counted from this number on
unfoldable pub columns_named : List ℕ → ℕ → List (List ℕ) → List ℕ
columns_named name i [] = []
columns_named name i (n ∷ names) = if bytes_eq n name then i ∷ columns_named name (i + 1) names else columns_named name (i + 1) names

-- the only one of these, if there is exactly one
abbrev pub only_one : List ℕ → Option ℕ
only_one [] = None
only_one (i ∷ []) = Some i
only_one (i ∷ j ∷ more) = None

-- the columns of a place, if there is one for each of its two numbers
abbrev pub both_columns : Option ℕ → Option ℕ → ℕ → Option Columns
both_columns None right width = None
both_columns (Some left) None width = None
both_columns (Some left) (Some right) width = Some record { left = left; right = right; width = width }

-- where the places are under a header, which has exactly one column of each of the two names
abbrev pub place_columns : List (List ℕ) → Option Columns
place_columns header = both_columns (only_one (columns_named left_name 0 header)) (only_one (columns_named right_name 0 header)) (length header)
