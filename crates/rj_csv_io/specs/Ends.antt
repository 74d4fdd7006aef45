-- The records of rows by their fronts and their ends: a row's front is its first cells, and its end
-- is the others.
use Rattle.std.specs.Prelude.{◌≡◌, ◌<◌, ◌≤◌, ◌-◌, ◌++◌, ◌∷◌, ℕ, zero, suc, List, [], length, map, take, drop, slice_index_or}
use Rattle.csv.specs.Writing.{row_text}
use Rattle.rj_columns.specs.Contents.{Content, nothing}
use Rattle.rj_csv_io.specs.Shown.{shown, writer_of}
use Rattle.rj_csv_io.specs.declared.ends.RowEnds.{RowEnds}

-- the record of a row
abbrev pub record_of : ℕ → List ℕ → List Content → List ℕ
record_of d null row = row_text (writer_of d) (map (shown null) row)

-- the records of the rows from one to another
abbrev pub records_between : ℕ → List ℕ → List (List Content) → ℕ → ℕ → List (List ℕ)
records_between d null rows from to = map (record_of d null) (take (to - from) (drop from rows))

-- how a record ends that has these cells last: from the delimiter before them on, which is the record of an empty field and of them
abbrev pub end_text : ℕ → List ℕ → List Content → List ℕ
end_text d null cells = row_text (writer_of d) ([] ∷ map (shown null) cells)

-- this many NULLs
unfoldable pub nulls : ℕ → List Content
nulls zero = []
nulls (suc n) = nothing ∷ nulls n

-- a text without its last byte
abbrev pub but_last : List ℕ → List ℕ
but_last text = take (length text - 1) text

-- the text of the end of a row
abbrev pub end_at : RowEnds → ℕ → List ℕ
end_at e i = slice_index_or e.texts.now (slice_index_or e.numbers.now i 0) []

-- a row is two cells or more and then others, and this is the text of its end
pub record IsEnded (d : ℕ) (null : List ℕ) (front row : List Content) (text : List ℕ) : Type 0 where
  pub cells : List Content
  pub wide : 2 ≤ length front
  pub some : 0 < length cells
  pub row_is : row ≡ front ++ cells
  pub text_is : text ≡ end_text d null cells

-- each of these rows has one of these fronts and its end
pub record AreEnded (d : ℕ) (null : List ℕ) (fronts rows : List (List Content)) (e : RowEnds) : Type 0 where
  pub count : length rows ≡ length fronts
  pub each : (i : ℕ) → i < length fronts → IsEnded d null (slice_index_or fronts i []) (slice_index_or rows i []) (end_at e i)
