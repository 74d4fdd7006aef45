-- Texts that are read piece by piece: each ends where a record ends, and the first one has the header.
use Rattle.std.specs.Prelude.{ℕ, ◌≡◌, ◌≤◌, ◌<◌, ◌-◌, ◌⊎◌, Bool, true, false, List, [], ◌∷◌, take, drop, slice_index_or, Ok}
use Rattle.csv.specs.Reading.{records}
use Rattle.csv.specs.Records.{fields_of}
use Rattle.csv.specs.declared.parser.State.TheVariants as st
use Rattle.rj_csv_io.specs.StrictReading.{config_of}
use Rattle.rj_columns.specs.declared.cell.ColumnType.{ColumnType}
use Rattle.rj_columns.specs.Contents.{Content}
use Rattle.rj_csv_io.specs.Cuts.{state_after}
use Rattle.rj_csv_io.specs.Rows.{read_row}
use Rattle.rj_csv_io.specs.declared.pieces.Header.{Header}

-- a line feed that ends a record comes before this place, where this delimiter is between fields
pub record IsLineEnd (d : ℕ) (text : List ℕ) (at : ℕ) : Type 0 where
  pub behind : 0 < at
  pub feed : slice_index_or text (at - 1) 0 ≡ 10
  pub ends : state_after d st.StartRecord (take at text) ≡ st.StartRecord

-- the last place up to `end` after such a line feed, or 0 if there is none
pub record IsLastEnd (d : ℕ) (text : List ℕ) (end last : ℕ) : Type 0 where
  pub within : last ≤ end
  pub here : (last ≡ 0) ⊎ IsLineEnd d text last
  pub none : (at : ℕ) → last < at → at ≤ end → IsLineEnd d text at → ⊥

-- the names in a header
abbrev pub names_in : Header → List (List ℕ)
names_in header = fields_of header.record

-- the records of rows in a piece, which has no byte order mark of its own: all, or all but the
-- first one if that is the header
abbrev pub piece_records : ℕ → Bool → List ℕ → List (List (List ℕ))
piece_records d true text = drop 1 (records (config_of d) text)
piece_records d false text = records (config_of d) text

-- these are the rows of the records, however many there are
abbrev pub AreRows : List (List ℕ) → List ColumnType → List (List (List ℕ)) → List (List Content) → Type 0
AreRows nulls types [] [] = Unit {0}
AreRows nulls types [] (row ∷ rows) = ⊥
AreRows nulls types (r ∷ records) [] = ⊥
AreRows nulls types (r ∷ records) (row ∷ rows) = (read_row nulls types 0 r ≡ Ok row) × AreRows nulls types records rows
