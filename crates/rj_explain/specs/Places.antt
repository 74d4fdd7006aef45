-- Where the record of a row is in a text of CSV as the library `csv` reads it by a delimiter, and
-- on which line of the file (RFC 4180, section 2).
use Rattle.std.specs.Prelude.{ℕ, zero, suc, ◌≡◌, ◌⊎◌, ◌+◌, ◌≤◌, ◌==◌, ◌||◌, Bool, List, [], Option, None, Some, length, take, drop, slice_get}
use Rattle.std.specs.List.{count_by, prefix_len}
use Rattle.csv.specs.Machine.{Read, next_record}
use Rattle.csv.specs.Reading.{AreRecords, Reached}
use Rattle.csv.specs.declared.parser.State.{State}
use Rattle.csv.specs.declared.parser.State.TheVariants as st
use Rattle.rj_csv_io.specs.StrictReading.{config_of}

-- between two records
abbrev pub IsBetween : State → Type 0
IsBetween s = (s ≡ st.StartRecord) ⊎ (s ≡ st.AfterCr)

-- the first record of a text ends before this place
abbrev pub EndsFirst : ℕ → List ℕ → ℕ → Type 0
EndsFirst d text end =
    (fields : List (List ℕ)) × (s : State) × IsBetween s × (next_record (config_of d) st.StartRecord [] [] text ≡ Some (fields, s, drop end text))

-- this many records of the text come before this place, the header being one
pub record StandsAt (d : ℕ) (text : List ℕ) (row at : ℕ) : Type 0 where
  pub before : List (List (List ℕ))
  pub state : State
  pub reached : Reached (config_of d) st.StartRecord text before state (drop at text)
  pub between : IsBetween state
  pub count : length before ≡ row

-- the text has no record of this row: the header's is 0
abbrev pub HasNoRow : ℕ → List ℕ → ℕ → Type 0
HasNoRow d text row = (all : List (List (List ℕ))) × AreRecords (config_of d) st.StartRecord text all × (length all ≤ row)

-- CR or LF
abbrev pub is_line_end : ℕ → Bool
is_line_end c = (c == 13) || (c == 10)

-- the place of the first byte from there on that isn't part of a line end
abbrev pub first_byte : List ℕ → ℕ → ℕ
first_byte text at = at + prefix_len is_line_end (drop at text)

-- the line of a place, counted from 1: one more than the line feeds before it
abbrev pub line_of : List ℕ → ℕ → ℕ
line_of text at = count_by (λ c. c == 10) (take at text) + 1

-- the record of a row, which has this many records before it, its fields, and the line on which its
-- first byte is
pub record IsRow (d : ℕ) (text : List ℕ) (row line : ℕ) (fields : List (List ℕ)) : Type 0 where
  pub at : ℕ
  pub stands : StandsAt d text row at
  pub read : Read
  pub next : next_record (config_of d) stands.state [] [] (drop at text) ≡ Some read
  pub fields_of_it : read.0 ≡ fields
  pub on_line : line ≡ line_of text (first_byte text at)

-- what is at a column, counted from 1
abbrev pub at_column : {A : Type 0} → ℕ → List A → Option A
at_column zero xs = None
at_column (suc i) xs = slice_get xs i
