-- Segments, which are tables without names: how their rows make those of a table, and where a row is found.
-- Internal: no public contract uses it.
use Rattle.std.specs.Prelude.{ℕ, ◌+◌, ◌≡◌, ◌<◌, ◌≤◌, ◌^◌, List, [], ◌++◌, None, length, take, slice_index_or, All}
use Rattle.rj_columns.specs.Names.{name_fault}
use Rattle.rj_columns.specs.Tables.{TableValue, FitsTypes, rows_of_all}

-- the table of some segments and a last one, under these names
abbrev pub table_in : List (List ℕ) → List TableValue → TableValue → TableValue
table_in names closed last = record { names = names; types = last.types; rows = rows_of_all closed ++ last.rows }

-- segments of equal types, whose rows are of these types, with a valid name for each of at most 256
-- columns, and rows within the limit
pub record AreSegments (names : List (List ℕ)) (closed : List TableValue) (last : TableValue) : Type 0 where
  pub few : length last.types ≤ 256
  pub named : length names ≡ length last.types
  pub lawful : name_fault [] names ≡ None
  pub alike : All (λ s. s.types ≡ last.types) closed
  pub typed : All (FitsTypes last.types) (rows_of_all closed ++ last.rows)
  pub within : length (rows_of_all closed ++ last.rows) < 2 ^ 31

-- the segment of some that has a row, and the number of its first one
pub record IsFound (segments : List TableValue) (row first : ℕ) (segment : TableValue) : Type 0 where
  pub place : ℕ
  pub inside : place < length segments
  pub found : segment ≡ slice_index_or segments place segment
  pub start : first ≡ length (rows_of_all (take place segments))
  pub from : first ≤ row
  pub to : row < first + length segment.rows

-- the rows of a table from one on, under the same types
pub record IsPartOf (t : TableValue) (start : ℕ) (part : TableValue) : Type 0 where
  pub types : part.types ≡ t.types
  pub within : start + length part.rows ≤ length t.rows
  pub rows : (k : ℕ) → k < length part.rows → slice_index_or t.rows (start + k) [] ≡ slice_index_or part.rows k []
