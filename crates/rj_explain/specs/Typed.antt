-- An operand of a clause with its type.
use Rattle.std.specs.Prelude.{ℕ, ℤ, Bool, ◌==◌, ◌||◌, List, [], ◌++◌, codes, Option, None, Some, if◌then◌else◌, slice_get}
use Rattle.std.specs.Char.{is_ascii_alphanumeric}
use Rattle.std.specs.Fmt.{signed_decimal}
use Rattle.std.specs.List.{flat_map, list_all}
use Rattle.rj_columns.specs.Tables.{TableValue}
use Rattle.rj_columns.specs.declared.cell.ColumnType.{ColumnType}
use Rattle.rj_condition.specs.declared.bound.BoundOperand.{BoundOperand}
use Rattle.rj_condition.specs.declared.bound.BoundOperand.TheVariants as operand
use Rattle.rj_condition.specs.declared.tree.Literal.{Literal}
use Rattle.rj_condition.specs.declared.tree.Literal.TheVariants as literal
use Rattle.rj_columns.specs.NumbersWritten.{text_of}
use Rattle.rj_line.specs.Shown as shown
use Rattle.rj_explain.specs.Shown.{type_word}
use Rattle.rj_line.specs.Shown.{shown_byte}

-- a name of ASCII letters, digits and `_` as it is, and any other between double quotes
abbrev pub is_plain : List ℕ → Bool
is_plain name = list_all (λ b. is_ascii_alphanumeric b || b == 95) name

abbrev pub name_word : List ℕ → List ℕ
name_word name = if is_plain name then name else shown.shown name

-- a column with its table's letter and its type, if the table has it
abbrev pub column_text : List ℕ → Option ColumnType → Option (List ℕ) → List ℕ
column_text letter None name = []
column_text letter (Some kind) None = []
column_text letter (Some kind) (Some name) = letter ++ (codes "." ++ (name_word name ++ (codes " is " ++ type_word kind)))

-- the text of a decimal literal
unfoldable pub digits : ℕ → ℤ → List ℕ
digits scale units = flat_map shown_byte (text_of scale units)

-- a literal as a clause writes it, and whether it is a number
abbrev pub literal_text : Literal → List ℕ
literal_text (literal.Integer number) = signed_decimal number ++ codes " is a number"
literal_text (literal.Decimal d) = digits d.scale d.units ++ codes " is a number"
literal_text (literal.Text text) = shown.literal text ++ codes " is text"

abbrev pub typed_text : BoundOperand → TableValue → TableValue → List ℕ
typed_text (operand.Left column) left right = column_text (codes "L") (slice_get left.types column) (slice_get left.names column)
typed_text (operand.Right column) left right = column_text (codes "R") (slice_get right.types column) (slice_get right.names column)
typed_text (operand.Literal l) left right = literal_text l
