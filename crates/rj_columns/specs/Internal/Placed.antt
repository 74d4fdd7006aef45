-- Segments at their places in a table, and the hints by which the segment of a row is found.
-- Internal: no public contract uses it.
use Rattle.std.specs.Prelude.{ℕ, suc, ◌+◌, ◌*◌, ◌≡◌, ◌<◌, ◌≤◌, ◌^◌, List, length, map, take, slice_index_or}
use Rattle.rj_columns.specs.declared.segments.Placed.{Placed}
use Rattle.rj_columns.specs.Tables.{TableValue, rows_of_all}

abbrev pub segments_in : List Placed → List TableValue
segments_in placed = map (λ p. p.segment) placed

-- how many rows the first segments have
abbrev pub rows_before : List Placed → ℕ → ℕ
rows_before placed place = length (rows_of_all (take place (segments_in placed)))

-- each hint is the place of a segment that begins at the row that is hinted at, every 65,536th, or before it
abbrev pub AreHints : List Placed → List ℕ → Type 0
AreHints placed hints = (k : ℕ) → k < length hints → (slice_index_or hints k 0 < length placed) × (rows_before placed (slice_index_or hints k 0) ≤ k * 65536)

-- segments that follow one another from row 0 on, and a hint for every 65,536th row
pub record ArePlaced (placed : List Placed) (hinted : List ℕ) (rows : ℕ) : Type 0 where
  pub count : rows ≡ length (rows_of_all (segments_in placed))
  pub starts : (i : ℕ) (d : Placed) → i < length placed → (slice_index_or placed i d).start ≡ rows_before placed i
  pub ends : (i : ℕ) (d : Placed) → i < length placed → (slice_index_or placed i d).end ≡ rows_before placed (suc i)
  pub hints : AreHints placed hinted
  pub enough : rows ≤ length hinted * 65536
  pub few : length hinted * 65536 < rows + 65536
  pub within : rows < 2 ^ 31
