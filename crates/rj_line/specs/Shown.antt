-- How bytes of a file and texts are shown, each on one line.
use Rattle.std.specs.Prelude.{ℕ, true, Bool, List, [], ◌∷◌, ◌++◌, ◌-◌, ◌/◌, ◌%◌, ◌==◌, ◌||◌, nat_lt, if◌then◌else◌, codes, decimal, encode_utf8, length, take}
use Rattle.std.specs.Fmt.{digit_glyph}
use Rattle.std.specs.List.{flat_map}
use Rattle.std.specs.Str.{chars}
use Rattle.std.specs.Str.Lossy.{utf8_valid_len}

-- a backslash, x and the two hexadecimal digits of a byte
abbrev pub byte_text : ℕ → List ℕ
byte_text b = 92 ∷ (120 ∷ (digit_glyph true (b / 16) ∷ (digit_glyph true (b % 16) ∷ [])))

-- a control character of ASCII by its byte; each other character is itself
unfoldable pub shown_char : ℕ → List ℕ
shown_char c = if nat_lt c 32 || (c == 127) then byte_text c else encode_utf8 c

-- the same in a text literal of a clause, which has each of its quotes twice
unfoldable pub literal_char : ℕ → List ℕ
literal_char c = if c == 39 then codes "''" else shown_char c

-- if the whole isn't UTF-8, a byte that isn't printable ASCII by its digits
unfoldable pub shown_byte : ℕ → List ℕ
shown_byte b = if nat_lt b 32 || nat_lt 126 b then byte_text b else encode_utf8 b

-- the characters that end within the first 60 bytes of a text
abbrev pub shown_part : List ℕ → List ℕ
shown_part text = take (utf8_valid_len (take 60 text)) text

-- how many bytes come after what is shown, if there are any
abbrev pub more_text : ℕ → List ℕ
more_text n = if n == 0 then [] else codes " and " ++ (decimal n ++ codes " more bytes")

abbrev pub is_text : List ℕ → Bool
is_text bytes = utf8_valid_len bytes == length bytes

-- a text between double quotes
abbrev pub shown_text : List ℕ → List ℕ
shown_text text = 34 ∷ (flat_map shown_char (chars (shown_part text)) ++ (34 ∷ more_text (length text - length (shown_part text))))

-- bytes that aren't UTF-8 between double quotes
abbrev pub shown_bytes : List ℕ → List ℕ
shown_bytes bytes = 34 ∷ (flat_map shown_byte (take 60 bytes) ++ (34 ∷ more_text (length bytes - 60)))

-- bytes of a file
unfoldable pub shown : List ℕ → List ℕ
shown bytes = if is_text bytes then shown_text bytes else shown_bytes bytes

-- a text as a clause writes it, between single quotes
unfoldable pub literal : List ℕ → List ℕ
literal text = 39 ∷ (flat_map literal_char (chars (shown_part text)) ++ (39 ∷ more_text (length text - length (shown_part text))))
