-- The ends of rows, as rows of their own.
use Rattle.std.specs.Prelude.{ℕ, List, [], ◌∷◌, map, slice_index_or}
use Rattle.rj_columns.specs.Contents.{Content, nothing, word}

-- an empty text, and the cells of a row at these columns
abbrev pub end_of : List ℕ → List Content → List Content
end_of columns row = word [] ∷ map (λ c. slice_index_or row c nothing) columns

-- so of each row
abbrev pub ends_of : List ℕ → List (List Content) → List (List Content)
ends_of columns rows = map (end_of columns) rows
