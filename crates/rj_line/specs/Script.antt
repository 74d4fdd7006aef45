-- The script of arrivals: its lines, and the parcel that a line reads as.
use Rattle.std.specs.Prelude.{ℕ, ◌^◌, ◌==◌, ◌&&◌, nat_lt, Bool, if◌then◌else◌, List, [], ◌∷◌, length, map, filter, codes, Option, Some, None, option_map, is_some}
use Rattle.std.specs.List.{slice_split, filter_map, list_all}
use Rattle.std.specs.Char.{is_ascii_digit}
use Rattle.std.specs.Str.{bytes_eq}
use Rattle.std.specs.Str.Lines.{lines}
use Rattle.std.specs.Str.Parse.{digits_value}
use Rattle.rj_exchange.specs.declared.ledger.parcel.Body.{Body}
use Rattle.rj_exchange.specs.declared.ledger.parcel.Body.TheVariants.{Rows, Close}
use Rattle.rj_exchange.specs.declared.ledger.parcel.Parcel.{Parcel}

-- the lines that aren't empty: a line ends with LF, a CR before that LF is dropped, and the last line may lack its LF
abbrev pub script_lines : List ℕ → List (List ℕ)
script_lines script = filter (λ line. nat_lt 0 (length line)) (lines script)

-- the words of a line, cut at each single space
abbrev pub words_of : List ℕ → List (List ℕ)
words_of line = slice_split (λ b. b == 32) line

-- one or more decimal digits
abbrev pub is_numeral : List ℕ → Bool
is_numeral word = nat_lt 0 (length word) && list_all is_ascii_digit word

-- a numeral whose value is below the limit
abbrev pub number_of : ℕ → List ℕ → Option ℕ
number_of limit word = if is_numeral word && nat_lt (digits_value 10 word) limit then Some (digits_value 10 word) else None

abbrev pub with_first : Option ℕ → Option (List ℕ) → Option (List ℕ)
with_first (Some n) (Some ns) = Some (n ∷ ns)
with_first (Some n) None = None
with_first None ns = None

-- the row numbers, if each word is one
abbrev pub rows_of : List (List ℕ) → Option (List ℕ)
rows_of [] = Some []
rows_of (word ∷ words) = with_first (number_of (2 ^ 32) word) (rows_of words)

-- `rows` and row numbers, or `close` alone
abbrev pub body_of : List (List ℕ) → Option Body
body_of [] = None
body_of (kind ∷ words) =
    if bytes_eq kind (codes "rows") then option_map Rows (rows_of words)
    else if bytes_eq kind (codes "close") && length words == 0 then Some Close else None

abbrev pub parcel_of : Option ℕ → Option ℕ → Option ℕ → Option Body → Option Parcel
parcel_of (Some sender) (Some partition) (Some number) (Some body) = Some (record { sender = sender; partition = partition; number = number; body = body })
parcel_of _ _ _ _ = None

-- SENDER PARTITION NUMBER and a body
abbrev pub reading_of : List (List ℕ) → Option Parcel
reading_of (sender ∷ partition ∷ number ∷ body) =
    parcel_of (number_of (2 ^ 32) sender) (number_of (2 ^ 32) partition) (number_of (2 ^ 64) number) (body_of body)
reading_of _ = None

-- what a line reads as: a parcel, or nothing
abbrev pub reading : List ℕ → Option Parcel
reading line = reading_of (words_of line)

abbrev pub readings : List ℕ → List (Option Parcel)
readings script = map reading (script_lines script)

-- the parcels, in order
abbrev pub parcels_of : List (Option Parcel) → List Parcel
parcels_of rs = filter_map (λ r. r) rs

-- no line is unreadable
abbrev pub are_readable : List (Option Parcel) → Bool
are_readable rs = list_all is_some rs
