-- RFC 4180's grammar (section 2): its derivations, each with the text that it derives and its
-- records. Another delimiter may stand for COMMA, TEXTDATA is widened to all bytes but the
-- delimiter, DQUOTE, CR and LF, and a line may end in LF alone.
use Rattle.std.specs.Prelude.{ℕ, ◌+◌, ◌==◌, ◌≡◌, ◌||◌, ◌&&◌, not, nat_le, nat_lt, if◌then◌else◌, Bool, true, false, List, [], ◌∷◌, ◌++◌, map, flat_map, length, Option, Some, None, IsTrue}
use Rattle.std.specs.Char.{is_ascii_alphanumeric}
use Rattle.std.specs.List.{list_all}
use Rattle.rj_csv_io.specs.declared.strict.header.HeaderPlace.{HeaderPlace}
use Rattle.rj_csv_io.specs.declared.strict.header.HeaderPlace.TheVariants.{First, Above}

abbrev pub comma : ℕ
comma = 44

abbrev pub dquote : ℕ
dquote = 34

abbrev pub cr : ℕ
cr = 13

abbrev pub lf : ℕ
lf = 10

-- a byte that may be the delimiter: one of ASCII that is no letter, digit, DQUOTE, CR or LF
abbrev pub may_delimit : ℕ → Bool
may_delimit d = nat_lt d 128 && not (is_ascii_alphanumeric d) && not (d == dquote) && not (d == cr) && not (d == lf)

-- TEXTDATA = any byte but the delimiter, DQUOTE, CR and LF
abbrev pub is_textdata : ℕ → ℕ → Bool
is_textdata d c = not ((c == d) || (c == dquote) || (c == cr) || (c == lf))

-- *(TEXTDATA / delimiter / CR / LF / 2DQUOTE), of the bytes that it stands for
unfoldable pub doubled : List ℕ → List ℕ
doubled [] = []
doubled (c ∷ bytes) = if c == dquote then dquote ∷ dquote ∷ doubled bytes else c ∷ doubled bytes

-- field = (escaped / non-escaped), of the bytes that it stands for
pub data Field : Type 0 where
  escaped : List ℕ → Field
  non-escaped : List ℕ → Field

-- escaped = DQUOTE *(TEXTDATA / delimiter / CR / LF / 2DQUOTE) DQUOTE, and non-escaped = *TEXTDATA
abbrev pub field_text : Field → List ℕ
field_text (escaped bytes) = dquote ∷ (doubled bytes ++ dquote ∷ [])
field_text (non-escaped bytes) = bytes

abbrev pub is_field : ℕ → Field → Bool
is_field d (escaped bytes) = true
is_field d (non-escaped bytes) = list_all (is_textdata d) bytes

-- record = field *(delimiter field), which is *(field delimiter) field
pub record Record : Type 0 where
  pub before : List Field
  pub last : Field

-- *(field delimiter)
abbrev pub fields_text : ℕ → List Field → List ℕ
fields_text d fields = flat_map (λ f. field_text f ++ d ∷ []) fields

abbrev pub record_text : ℕ → Record → List ℕ
record_text d r = fields_text d r.before ++ field_text r.last

abbrev pub is_record : ℕ → Record → Bool
is_record d r = list_all (is_field d) r.before && is_field d r.last

-- how many fields there are
abbrev pub width : Record → ℕ
width r = length r.before + 1

-- nothing at all: one non-escaped field of no bytes
abbrev pub is_blank : Record → Bool
is_blank r = none r.before r.last
  where
    none : List Field → Field → Bool
    none [] (non-escaped []) = true
    none [] (non-escaped (c ∷ bytes)) = false
    none [] (escaped bytes) = false
    none (f ∷ fields) last = false

pub data LineEnd : Type 0 where
  LF : LineEnd
  CRLF : LineEnd

abbrev pub end_text : LineEnd → List ℕ
end_text LF = lf ∷ []
end_text CRLF = cr ∷ lf ∷ []

pub record Line : Type 0 where
  pub fields : Record
  pub ended : LineEnd

abbrev pub line_text : ℕ → Line → List ℕ
line_text d l = record_text d l.fields ++ end_text l.ended

-- an empty line is a record where there is one name
abbrev pub is_line : ℕ → ℕ → Line → Bool
is_line d names l = is_record d l.fields && (nat_le names 1 || not (is_blank l.fields))

abbrev pub lines_text : ℕ → List Line → List ℕ
lines_text d lines = flat_map (line_text d) lines

-- how many names the header has: header = name *(delimiter name) is a record like any other, the
-- first one if it is in the text
abbrev pub names_of : HeaderPlace → List Line → ℕ
names_of First [] = 1
names_of First (l ∷ lines) = width l.fields
names_of (Above names) lines = names

-- file = [header line-end] record *(line-end record) [line-end], which is *(record line-end)
-- [record] with a last record of one byte or more, so that a line end at the end of the text begins
-- no record
pub record File : Type 0 where
  pub lines : List Line
  pub rest : Option Record

abbrev pub rest_text : ℕ → Option Record → List ℕ
rest_text d None = []
rest_text d (Some r) = record_text d r

abbrev pub file_text : ℕ → File → List ℕ
file_text d file = lines_text d file.lines ++ rest_text d file.rest

-- in a full file each record has its line end
abbrev pub is_rest : ℕ → Bool → Option Record → Bool
is_rest d full None = true
is_rest d full (Some r) = is_record d r && not (is_blank r) && not full

-- this is a derivation of the text, with this delimiter
pub record Derives (d : ℕ) (header : HeaderPlace) (full : Bool) (text : List ℕ) (file : File) : Type 0 where
  pub spelled : text ≡ file_text d file
  pub lines : IsTrue (list_all (is_line d (names_of header file.lines)) file.lines)
  pub rest : IsTrue (is_rest d full file.rest)

-- the bytes that a field stands for
abbrev pub value_of : Field → List ℕ
value_of (escaped bytes) = bytes
value_of (non-escaped bytes) = bytes

abbrev pub values_of : Record → List (List ℕ)
values_of r = map value_of (r.before ++ r.last ∷ [])

abbrev pub rest_records : Option Record → List (List (List ℕ))
rest_records None = []
rest_records (Some r) = values_of r ∷ []

-- the records in a file
abbrev pub records_of : File → List (List (List ℕ))
records_of file = map (λ l. values_of l.fields) file.lines ++ rest_records file.rest
