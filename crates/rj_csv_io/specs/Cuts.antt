-- Where a text of CSV can be cut: after the end of a record.
use Rattle.std.specs.Prelude.{ℕ, ◌==◌, ◌||◌, if◌then◌else◌, Bool, true, false, List, [], ◌∷◌, ◌++◌}
use Rattle.csv.specs.Machine.{step}
use Rattle.csv.specs.Reading.{is_bom, records, strip_bom}
use Rattle.csv.specs.declared.parser.State.{State}
use Rattle.csv.specs.declared.parser.State.TheVariants as st
use Rattle.rj_csv_io.specs.StrictReading.{config_of}
use Rattle.rj_csv_io.specs.declared.place.ReaderPlace.{ReaderPlace}
use Rattle.rj_csv_io.specs.declared.place.ReaderPlace.TheVariants as place

-- the records of a text that may begin with a byte order mark, by this delimiter
abbrev pub records_in : ℕ → List ℕ → List (List (List ℕ))
records_in d text = records (config_of d) (strip_bom text)

-- the records of several texts, one after the other
unfoldable pub records_in_all : ℕ → List (List ℕ) → List (List (List ℕ))
records_in_all d [] = []
records_in_all d (text ∷ texts) = records_in d text ++ records_in_all d texts

-- the state of csv's machine after these bytes
unfoldable pub state_after : ℕ → State → List ℕ → State
state_after d s [] = s
state_after d s (c ∷ text) = state_after d (step (config_of d) s c).0 text

-- between quotes
abbrev pub is_open : State → Bool
is_open st.StartRecord = false
is_open st.StartField = false
is_open st.InField = false
is_open st.InQuoted = true
is_open st.AfterQuote = false
is_open st.InEscape = true
is_open st.InComment = true
is_open st.AfterCr = false

-- the delimiter, CR or LF
abbrev pub is_separator : ℕ → ℕ → Bool
is_separator d c = (c == d) || (c == 13) || (c == 10)

-- the place after a byte that is no quote, outside quotes
abbrev pub after_plain : ℕ → ℕ → ReaderPlace
after_plain d c = if is_separator d c then place.Fresh else place.Inside

-- the place after a quote
abbrev pub after_quote : ReaderPlace → ReaderPlace
after_quote place.Fresh = place.Open
after_quote place.Inside = place.Inside
after_quote place.Open = place.Closed
after_quote place.Closed = place.Open

-- the place after one or more bytes without a quote, of which this is the last
abbrev pub after_run : ℕ → ReaderPlace → ℕ → ReaderPlace
after_run d place.Fresh c = after_plain d c
after_run d place.Inside c = after_plain d c
after_run d place.Open c = place.Open
after_run d place.Closed c = after_plain d c

abbrev pub after_byte : ℕ → ReaderPlace → ℕ → ReaderPlace
after_byte d p c = if c == 34 then after_quote p else after_run d p c

-- the place after these bytes
unfoldable pub place_after : ℕ → ReaderPlace → List ℕ → ReaderPlace
place_after d p [] = p
place_after d p (c ∷ text) = place_after d (after_byte d p c) text

abbrev pub place_of : State → ReaderPlace
place_of st.StartRecord = place.Fresh
place_of st.StartField = place.Fresh
place_of st.InField = place.Inside
place_of st.InQuoted = place.Open
place_of st.AfterQuote = place.Closed
place_of st.InEscape = place.Open
place_of st.InComment = place.Inside
place_of st.AfterCr = place.Fresh

abbrev pub is_open_place : ReaderPlace → Bool
is_open_place place.Fresh = false
is_open_place place.Inside = false
is_open_place place.Open = true
is_open_place place.Closed = false

-- a text that begins with a byte order mark
unfoldable pub has_bom : List ℕ → Bool
has_bom [] = false
has_bom (a ∷ []) = false
has_bom (a ∷ b ∷ []) = false
has_bom (a ∷ b ∷ c ∷ rest) = is_bom a b c
