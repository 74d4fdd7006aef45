-- Keys of undeclared columns that hold numbers, which are compared as texts.
use Rattle.std.specs.Prelude.{ℕ, ◌==◌, ◌-◌, ◌&&◌, Bool, true, false, not, nat_lt, if◌then◌else◌, List, [], ◌∷◌, length, map, Option, None, Some, is_some, unwrap_or, slice_index, slice_index_or, string_bytes}
use Rattle.std.specs.Char.{is_ascii_digit}
use Rattle.std.specs.List.{filter, list_all}
use Rattle.std.specs.Option.{option_or}
use Rattle.std.specs.Str.Parse.{starts_with_minus, without_leading_sign}
use Rattle.rj_columns.specs.NumbersRead.{are_digits, has_point, is_unsigned_text}
use Rattle.rj_columns.specs.Contents.{Content, nothing, whole, decimal, word}
use Rattle.rj_columns.specs.Tables.{TableValue, column_in}
use Rattle.rj_condition.specs.Tokens.{is_name_byte}
use Rattle.rj_line.specs.declared.fault.Side.{Side}
use Rattle.rj_line.specs.declared.fault.Side.TheVariants as side
use Rattle.rj_line.specs.declared.request.Request.{Request}
use Rattle.rj_line.specs.Shown.{shown}
use Rattle.rj_command.specs.Sides.{types_of}
use Rattle.rj_command.specs.Undeclared.{is_open, is_undeclared}
use Rattle.rj_command.specs.declared.join.numerals.Spelling.{Spelling}
use Rattle.rj_command.specs.declared.join.numerals.Spelling.TheVariants as spelling
use Rattle.rj_command.specs.declared.join.stats.TextKey.{TextKey}

-- a numeral: an optional sign, digits, and perhaps a point and digits
abbrev pub is_numeral : List ℕ → Bool
is_numeral text = is_unsigned_text (without_leading_sign text)

abbrev pub starts_with_plus : List ℕ → Bool
starts_with_plus text = slice_index text 0 == 43

-- a zero before another digit
abbrev pub has_leading_zero : List ℕ → Bool
has_leading_zero size = nat_lt 1 (length size) && (slice_index size 0 == 48) && is_ascii_digit (slice_index size 1)

-- a zero at the end, behind a point
abbrev pub has_trailing_zero : List ℕ → Bool
has_trailing_zero size = nat_lt 0 (length size) && (slice_index size (length size - 1) == 48) && has_point size

-- the text `-0`
abbrev pub is_minus_zero : List ℕ → Bool
is_minus_zero text = (length text == 2) && starts_with_minus text && (slice_index text 1 == 48)

-- a numeral is plain if it has no plus and no zero that could be left out, and isn't `-0`
abbrev pub is_plain : List ℕ → Bool
is_plain text =
    is_numeral text && not (starts_with_plus text) && not (has_leading_zero (without_leading_sign text))
    && not (has_trailing_zero (without_leading_sign text)) && not (is_minus_zero text)

-- a numeral; a plain one; digits alone, so many
abbrev pub is_of : Spelling → List ℕ → Bool
is_of spelling.Numeral text = is_numeral text
is_of spelling.Plain text = is_plain text
is_of (spelling.Code digits) text = are_digits text && (length text == digits)

-- a cell is NULL, or a text of this spelling
abbrev pub is_cell_of : Spelling → Content → Bool
is_cell_of f nothing = true
is_cell_of f (whole n) = false
is_cell_of f (decimal units scale) = false
is_cell_of f (word s) = is_of f s

-- how many bytes the text in a cell has
abbrev pub length_in : Content → Option ℕ
length_in nothing = None
length_in (whole n) = None
length_in (decimal units scale) = None
length_in (word s) = Some (length s)

-- how many the first text of a column has, if there is one
abbrev pub first_length : List Content → Option ℕ
first_length [] = None
first_length (x ∷ cells) = option_or (length_in x) (first_length cells)

-- each text of two columns is of this spelling
abbrev pub are_both : Spelling → List Content → List Content → Bool
are_both f left right = list_all (is_cell_of f) left && list_all (is_cell_of f) right

-- two columns hold numbers if each has a text, and all texts are numerals
abbrev pub hold_numbers : List Content → List Content → Bool
hold_numbers left right = is_some (first_length left) && is_some (first_length right) && are_both spelling.Numeral left right

-- digits alone, all of one length
abbrev pub are_codes : List Content → List Content → Bool
are_codes left right = are_both (spelling.Code (unwrap_or (first_length left) 0)) left right

-- two columns hold numbers that aren't written in one way: not all are plain, nor are they codes of
-- one length, of which equal ones are equal texts
abbrev pub are_alike : List Content → List Content → Bool
are_alike left right = hold_numbers left right && not (are_both spelling.Plain left right) && not (are_codes left right)

-- whether the type of a side's column isn't declared
abbrev pub is_open_column : Request → Side → TableValue → ℕ → Bool
is_open_column q s t column = is_undeclared (is_open q s) (types_of q s) (slice_index_or t.names column [])

-- a key is told if its two columns are undeclared and hold such numbers
abbrev pub is_text_key : Request → TableValue → TableValue → ℕ × ℕ → Bool
is_text_key q l r k =
    is_open_column q side.Left l k.0 && is_open_column q side.Right r k.1 && are_alike (column_in l.rows k.0) (column_in r.rows k.1)

-- a name as it is, if it has only letters, digits and underscores, or else as a report shows a text
abbrev pub shown_name : List ℕ → List ℕ
shown_name name = if list_all is_name_byte name then name else shown name

-- the names of a key's columns, as they are shown
abbrev pub names_at : TableValue → TableValue → ℕ × ℕ → List ℕ × List ℕ
names_at l r k = (shown_name (slice_index_or l.names k.0 []), shown_name (slice_index_or r.names k.1 []))

abbrev pub names_of : TextKey → List ℕ × List ℕ
names_of k = (string_bytes k.left, string_bytes k.right)

-- the keys among these that are told, by the names of their columns
abbrev pub text_key_names : Request → TableValue → TableValue → List (ℕ × ℕ) → List (List ℕ × List ℕ)
text_key_names q l r keys = map (names_at l r) (filter (is_text_key q l r) keys)
