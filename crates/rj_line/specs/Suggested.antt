-- The types that the cells of a file suggest, and the text of their list.
use Rattle.std.specs.Prelude.{codes, ℕ, ◌≡◌, ◌==◌, ◌<◌, ◌≤◌, ◌+◌, ◌&&◌, ◌||◌, ◌⊎◌, Bool, true, false, not, nat_le, min, max, if◌then◌else◌, List, [], ◌∷◌, ◌++◌, length, map, Option, Some, None, IfSome, Result, Ok, Err}
use Rattle.std.specs.Option.{IsSomeAnd}
use Rattle.std.specs.List.{list_all, slice_get}
use Rattle.std.specs.Char.{is_ascii_alphabetic}
use Rattle.std.specs.Str.Parse.{without_leading_sign}
use Rattle.csv.specs.Reading.{records, strip_bom}
use Rattle.rj_columns.specs.NumbersRead.{after_point, before_point, is_unsigned_text}
use Rattle.rj_columns.specs.declared.cell.ColumnType.{ColumnType}
use Rattle.rj_columns.specs.declared.cell.ColumnType.TheVariants as kind
use Rattle.rj_columns.specs.Contents.{Content, nothing, whole, decimal, word}
use Rattle.rj_columns.specs.Tables.{TableValue, cell_of}
use Rattle.rj_condition.specs.Tokens.{begins, in_quotes, is_name_byte}
use Rattle.rj_csv_io.specs.Tables.{records_read}
use Rattle.rj_csv_io.specs.Typed.{is_int_text}
use Rattle.rj_csv_io.specs.declared.refused.ReadRefused.{ReadRefused}
use Rattle.rj_line.specs.Faults.{read_fault}
use Rattle.rj_csv_io.specs.StrictReading.{config_of}
use Rattle.rj_settings.specs.Words.{begin_word, end_word}
use Rattle.rj_settings.specs.declared.types.entry.Label.TheVariants.{Name}
use Rattle.rj_settings.specs.declared.types.entry.TypeEntry.{TypeEntry}
use Rattle.rj_line.specs.declared.fault.Fault.{Fault}
use Rattle.rj_line.specs.declared.fault.Side.TheVariants as side
use Rattle.rj_line.specs.declared.suggest.number.Form.{Form}
use Rattle.rj_line.specs.declared.suggest.number.Form.TheVariants as form
use Rattle.rj_line.specs.declared.suggest.number.Part.{Part}
use Rattle.rj_line.specs.declared.suggest.number.Part.TheVariants as part

-- the type `text` for each column that a file's first record names
abbrev pub texts_for : List (List (List ℕ)) → List ColumnType
texts_for [] = []
texts_for (header ∷ rest) = map (λ _. kind.Text) header

-- what records denote if each column is of texts
abbrev pub read_as_texts : List (List (List ℕ)) → List (List ℕ) → Result TableValue ReadRefused
read_as_texts rs nulls = records_read rs (texts_for rs) nulls

-- no zero comes before another digit
abbrev pub has_no_leading_zero : List ℕ → Bool
has_no_leading_zero digits = nat_le (length digits) 1 || not (begins (λ b. b == 48) digits)

-- what is written before the point, and after it, without a sign
abbrev pub digits_of : Part → List ℕ → List ℕ
digits_of part.Before text = before_point (without_leading_sign text)
digits_of part.After text = after_point (without_leading_sign text)

-- a whole number of 64 bits, or a number with as many digits as it may have; no zero comes before its other digits
abbrev pub is_of : Form → List ℕ → Bool
is_of form.Int text = is_int_text text && has_no_leading_zero (digits_of part.Before text)
is_of form.Number text = is_unsigned_text (without_leading_sign text) && has_no_leading_zero (digits_of part.Before text)

-- the text in a cell
abbrev pub text_in : Content → Option (List ℕ)
text_in nothing = None
text_in (whole n) = None
text_in (decimal units scale) = None
text_in (word s) = Some s

-- each text in this many first rows of a column is such a one; and one of them is
abbrev pub EachAbove : TableValue → ℕ → ℕ → (List ℕ → Type 0) → Type 0
EachAbove t col rows P = (row : ℕ) → row < rows → IfSome (text_in (cell_of t row col)) P

abbrev pub SomeAbove : TableValue → ℕ → ℕ → (List ℕ → Type 0) → Type 0
SomeAbove t col rows P = (row : ℕ) × (row < rows) × IsSomeAnd (text_in (cell_of t row col)) P

-- the same for the whole column
abbrev pub EachText : TableValue → ℕ → (List ℕ → Type 0) → Type 0
EachText t col P = EachAbove t col (length t.rows) P

abbrev pub SomeText : TableValue → ℕ → (List ℕ → Type 0) → Type 0
SomeText t col P = SomeAbove t col (length t.rows) P

-- the first row of a column whose text isn't of a form
pub record IsFirstNotOf (form : Form) (t : TableValue) (col row : ℕ) : Type 0 where
  pub inside : row < length t.rows
  pub other : IsSomeAnd (text_in (cell_of t row col)) (λ s. is_of form s ≡ false)
  pub above : EachAbove t col row (λ s. is_of form s ≡ true)

-- the most digits that a text in the first rows of a column has in this part, and no fewer than `least`
pub record IsMostAbove (t : TableValue) (col rows : ℕ) (p : Part) (least most : ℕ) : Type 0 where
  pub enough : least ≤ most
  pub bound : EachAbove t col rows (λ s. length (digits_of p s) ≤ most)
  pub met : (most ≡ least) ⊎ SomeAbove t col rows (λ s. length (digits_of p s) ≡ most)

abbrev pub IsMost : TableValue → ℕ → Part → ℕ → ℕ → Type 0
IsMost t col p least most = IsMostAbove t col (length t.rows) p least most

-- the most digits, with those of a text, if there is one
abbrev pub most_with : Part → ℕ → Option (List ℕ) → ℕ
most_with p most None = most
most_with p most (Some s) = max most (length (digits_of p s))

-- the digits of the type for numbers that take so many: two more, for larger numbers, but at most 18
abbrev pub with_margin : ℕ → ℕ
with_margin digits = min 18 (digits + 2)

-- the numeric type with this many digits after the point, and before it this many and the margin, or
-- `text` if the two are more than 18
abbrev pub IsNumericOrText : ℕ → ℕ → ColumnType → Type 0
IsNumericOrText before after kind.Int = ⊥
IsNumericOrText before after (kind.Num n) = (before + after ≤ 18) × (n.precision ≡ with_margin (before + after)) × (n.scale ≡ after)
IsNumericOrText before after kind.Text = 18 < before + after

-- that type by the most digits that a text of a column has before the point, at least one, and after it
pub record IsByDigits (t : TableValue) (col : ℕ) (kind : ColumnType) : Type 0 where
  pub before : ℕ
  pub after : ℕ
  pub most_before : IsMost t col part.Before 1 before
  pub most_after : IsMost t col part.After 0 after
  pub type : IsNumericOrText before after kind

-- the type that the cells of a column of texts suggest: `int` if each text is a whole number; else
-- the type with the digits seen, and a margin, if each is a number; else `text`, also if there is no
-- text
abbrev pub IsSuggested : TableValue → ℕ → ColumnType → Type 0
IsSuggested t col kind.Int = SomeText t col (λ _. Unit {0}) × EachText t col (λ s. is_of form.Int s ≡ true)
IsSuggested t col (kind.Num n) =
    SomeText t col (λ s. is_of form.Int s ≡ false) × EachText t col (λ s. is_of form.Number s ≡ true) × IsByDigits t col (kind.Num n)
IsSuggested t col kind.Text =
    EachText t col (λ _. ⊥)
    ⊎ (SomeText t col (λ s. is_of form.Int s ≡ false) × (SomeText t col (λ s. is_of form.Number s ≡ false) ⊎ IsByDigits t col kind.Text))

-- one type for each column, in order, which its cells suggest
pub record AreSuggested (t : TableValue) (kinds : List ColumnType) : Type 0 where
  pub count : length kinds ≡ length t.types
  pub each : (col : ℕ) (kind : ColumnType) → slice_get kinds col ≡ Some kind → IsSuggested t col kind

-- a name is unchanged if it is an identifier of a clause (a list of types takes more, those that
-- begin with an underscore), and else between double quotes, with each one in it doubled
abbrev pub is_identifier : List ℕ → Bool
is_identifier [] = false
is_identifier (b ∷ bs) = is_ascii_alphabetic b && list_all is_name_byte bs

abbrev pub name_text : List ℕ → List ℕ
name_text name = if is_identifier name then name else in_quotes 34 name

-- the word of a type
abbrev pub type_word : ColumnType → List ℕ
type_word kind.Int = codes "int"
type_word (kind.Num t) = begin_word t.precision ++ (codes "," ++ end_word t.scale)
type_word kind.Text = codes "text"

-- the line of a column
abbrev pub column_line : List ℕ → ColumnType → List ℕ
column_line name kind = name_text name ++ 61 ∷ (type_word kind ++ 10 ∷ [])

-- a line for each column
abbrev pub column_lines : List (List ℕ) → List ColumnType → List ℕ
column_lines [] kinds = []
column_lines (name ∷ names) [] = []
column_lines (name ∷ names) (kind ∷ kinds) = column_line name kind ++ column_lines names kinds

-- the entry of a column in a list by name, and those of columns, in order
abbrev pub entry_of : List ℕ → ColumnType → TypeEntry
entry_of name kind = record { label = Name (record { text = name; delimited = not (is_identifier name) }); kind = kind }

abbrev pub entries_of : List (List ℕ) → List ColumnType → List TypeEntry
entries_of [] kinds = []
entries_of (name ∷ names) [] = []
entries_of (name ∷ names) (kind ∷ kinds) = entry_of name kind ∷ entries_of names kinds

-- the types that the cells of records suggest: these read as this table of texts, and read with these
-- types too
pub record AreKindsOf (rs : List (List (List ℕ))) (nulls : List (List ℕ)) (t : TableValue) (kinds : List ColumnType) : Type 0 where
  pub read : read_as_texts rs nulls ≡ Ok t
  pub suggested : AreSuggested t kinds
  pub typed : (typed_table : TableValue) × (records_read rs kinds nulls ≡ Ok typed_table)

-- the error of records that don't read as texts
abbrev pub IsFaultOf : List (List (List ℕ)) → List (List ℕ) → Fault → Type 0
IsFaultOf rs nulls f = (e : ReadRefused) × (read_as_texts rs nulls ≡ Err e) × (f ≡ read_fault side.Left e)

-- that of a file's records, by a delimiter
abbrev pub IsSuggestFault : ℕ → List ℕ → List (List ℕ) → Fault → Type 0
IsSuggestFault d bytes nulls f = IsFaultOf (records (config_of d) (strip_bom bytes)) nulls f
