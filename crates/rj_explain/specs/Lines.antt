-- The lines that explain an error, by the places in them.
use Rattle.std.specs.Prelude.{ℕ, ◌+◌, ◌-◌, ◌==◌, if◌then◌else◌, List, [], ◌∷◌, ◌++◌, codes, decimal, length, map, Option, None, Some, slice_get, slice_index_or}
use Rattle.std.specs.List.{filter_map, flat_map, position_from}
use Rattle.std.specs.Str.{str_eq_ignore_ascii_case}
use Rattle.rj_columns.specs.declared.cell.ColumnType.{ColumnType}
use Rattle.rj_condition.specs.declared.refusals.RefusedColumn.{RefusedColumn}
use Rattle.rj_line.specs.Faults.{side_text}
use Rattle.rj_line.specs.declared.fault.Side.{Side}
use Rattle.rj_settings.specs.Columns.{types_under}
use Rattle.rj_settings.specs.declared.types.entry.TypeEntry.{TypeEntry}
use Rattle.rj_explain.specs.Places.{at_column}
use Rattle.rj_explain.specs.Shown.{listed, names_text, wanted_rule, wanted_word}
use Rattle.rj_line.specs.Shown.{shown}

-- a line that names a line of the file, and what comes after that
abbrev pub file_line : ℕ → List ℕ → List ℕ
file_line line more = codes "  line " ++ (decimal line ++ (codes " of the file" ++ more))

-- a cell that isn't of its column's type
abbrev pub cell_line : ℕ → List ℕ → List ℕ → ColumnType → List ℕ
cell_line line name value kind =
    file_line line (codes ", column " ++ (shown name ++ (codes ": " ++ (shown value ++ (codes " is no " ++ (wanted_word kind ++ (wanted_rule kind ++ 10 ∷ [])))))))

-- the same, if the row has the column
abbrev pub cell_told : ℕ → Option ColumnType → Option (List ℕ) → Option (List ℕ) → List ℕ
cell_told line None name value = []
cell_told line (Some kind) None value = []
cell_told line (Some kind) (Some name) None = []
cell_told line (Some kind) (Some name) (Some value) = cell_line line name value kind

-- of a row on this line, under these names, whose types a list gives: the cell at a column, counted
-- from 1
abbrev pub cell_of_row : List TypeEntry → ℕ → ℕ → List (List ℕ) → List (List ℕ) → List ℕ
cell_of_row entries column line names fields =
    cell_told line (slice_get (types_under entries names) (column - 1)) (at_column column names) (at_column column fields)

-- a row whose length isn't the header's
abbrev pub ragged_line : ℕ → ℕ → ℕ → List ℕ
ragged_line line fields names = file_line line (codes ": " ++ (decimal fields ++ (codes " fields under " ++ (decimal names ++ (codes " names" ++ 10 ∷ [])))))

-- a place in a file that isn't of the grammar: the column's name, if there is one, and why
abbrev pub grammar_line : ℕ → Option (List ℕ) → List ℕ → List ℕ
grammar_line line None why = file_line line (codes ": " ++ (why ++ 10 ∷ []))
grammar_line line (Some name) why = file_line line (codes ", column " ++ (shown name ++ (codes ": " ++ (why ++ 10 ∷ []))))

-- an invalid name, and its length in bytes
abbrev pub name_line : Option (List ℕ) → List ℕ
name_line None = []
name_line (Some name) = codes "  the name is " ++ (shown name ++ (codes ", of " ++ (decimal (length name) ++ (codes " bytes" ++ 10 ∷ []))))

-- a name that occurs twice, with the first column of this name, counted from 1, and its spelling
abbrev pub repeated_line : List ℕ → ℕ → List ℕ → List ℕ
repeated_line name first other =
    codes "  " ++ (shown name ++ (codes " is the name of column " ++ (decimal first ++ (codes " too, " ++ (shown other ++ 10 ∷ [])))))

abbrev pub repeated_at : List (List ℕ) → List ℕ → Option ℕ → List ℕ
repeated_at names name None = []
repeated_at names name (Some i) = repeated_line name (i + 1) (slice_index_or names i [])

-- the same of the name at a column
abbrev pub repeated_told : List (List ℕ) → Option (List ℕ) → List ℕ
repeated_told names None = []
repeated_told names (Some name) = repeated_at names name (position_from (str_eq_ignore_ascii_case name) 0 names)

-- how many names and types there are, and the first name without a type, if there is one
abbrev pub count_line : ℕ → ℕ → Option (List ℕ) → List ℕ
count_line names types None = codes "  " ++ (decimal names ++ (codes " names, " ++ (decimal types ++ (codes " types" ++ 10 ∷ []))))
count_line names types (Some name) =
    codes "  " ++ (decimal names ++ (codes " names, " ++ (decimal types ++ (codes " types; the first without a type is " ++ (shown name ++ 10 ∷ [])))))

-- how many names a header has, and how many it may have
abbrev pub columns_line : ℕ → List ℕ
columns_line names = codes "  the header has " ++ (decimal names ++ (codes " names, and a table has at most 256 columns" ++ 10 ∷ []))

-- the names of a header
abbrev pub names_line : List (List ℕ) → List ℕ
names_line names = codes "  the header has " ++ (listed (map shown names) ++ 10 ∷ [])

-- how many matches a row is in
abbrev pub pairs_text : ℕ → List ℕ
pairs_text pairs = if pairs == 0 then codes "no kept pair" else decimal pairs ++ codes " kept pairs"

-- a column's name and a row's field there, if it has both
abbrev pub field_text : Option (List ℕ) → Option (List ℕ) → Option (List ℕ)
field_text (Some name) (Some value) = Some (codes " " ++ (shown name ++ (codes " is " ++ shown value)))
field_text name value = None

-- behind a colon, with commas between
abbrev pub fields_text : List (List ℕ) → List ℕ
fields_text [] = []
fields_text (field ∷ fields) = 58 ∷ (field ++ flat_map (λ f. 44 ∷ f) fields)

-- these columns of a row, counted from 0: their names in the header and the row's fields
abbrev pub key_text : List (List ℕ) → List (List ℕ) → List ℕ → List ℕ
key_text names fields columns = fields_text (filter_map (λ c. field_text (slice_get names c) (slice_get fields c)) columns)

-- a row that is in this many matches, and what is in its columns
abbrev pub row_line : Side → ℕ → ℕ → ℕ → List ℕ → List ℕ
row_line side row pairs line fields =
    codes "  " ++ (side_text side ++ (codes " row " ++ (decimal row ++ (codes ", line " ++ (decimal line ++ (codes " of the file, is in "
    ++ (pairs_text pairs ++ (fields ++ 10 ∷ []))))))))

-- a cell of the result that would be read as NULL
abbrev pub null_line : ℕ → Option (List ℕ) → List ℕ → List ℕ
null_line row None text = []
null_line row (Some name) text =
    codes "  row " ++ (decimal row ++ (codes " of the result, column " ++ (shown name ++ (codes ": " ++ (shown text
    ++ (codes " is a text, and null is written so too" ++ 10 ∷ []))))))

-- a name of the clause with the byte at which it begins, and what comes after that
abbrev pub clause_line : RefusedColumn → List ℕ → List ℕ
clause_line found more = codes "  " ++ (shown found.name ++ (codes " at byte " ++ (decimal found.at ++ (codes " of the clause" ++ more))))

-- the name of an entry of a list of columns, its number, counted from 1, and what comes after that
abbrev pub selected_line : List ℕ → ℕ → List ℕ → List ℕ
selected_line name number more = codes "  " ++ (shown name ++ (codes " in entry " ++ (decimal number ++ (codes " of --select" ++ more))))

-- what comes there for a name that both tables have
abbrev pub both_words : List ℕ
both_words = codes "; both tables have it: write L. or R. before it" ++ 10 ∷ []

-- and for an entry that is written under this name, as an earlier entry of this number is too
abbrev pub twice_words : List ℕ → Option ℕ → List ℕ
twice_words name None = 10 ∷ []
twice_words name (Some number) =
    codes "; " ++ (shown name ++ (codes " is the name of entry " ++ (decimal number ++ (codes " too: give one of them another name by =" ++ 10 ∷ []))))

-- two operands, and the byte at which their comparison begins
abbrev pub mismatch_line : List ℕ → List ℕ → ℕ → List ℕ
mismatch_line first second at = codes "  " ++ (first ++ (codes ", " ++ (second ++ (codes ", at byte " ++ (decimal at ++ (codes " of the clause" ++ 10 ∷ []))))))

-- an invalid entry of a type list, and what it has to be
abbrev pub entry_line : List ℕ → List ℕ → List ℕ
entry_line entry why = codes "  " ++ (shown entry ++ (codes ": " ++ (why ++ 10 ∷ [])))

-- the line for a list whose entries are valid, each by itself
abbrev pub mixed_line : List ℕ
mixed_line = codes "  a name stands before each type or before none, and * before one at most" ++ 10 ∷ []

-- the same for a list for both tables
abbrev pub shared_line : List ℕ
shared_line = codes "  a name stands before each type, as in id=int,price=num(9,2)" ++ 10 ∷ []

-- the names of both tables
abbrev pub both_names_line : List (List ℕ) → List (List ℕ) → List ℕ
both_names_line left right = codes "  left has " ++ (names_text left ++ (codes "; right has " ++ (names_text right ++ 10 ∷ [])))

-- the line for a text that can't be written for NULL
abbrev pub null_rule : List ℕ
null_rule = codes "  a text for null has at most 16 printable ASCII bytes, and no digit, comma, double quote or space" ++ 10 ∷ []

-- the line for an invalid list of rows
abbrev pub rows_rule : List ℕ
rows_rule = codes "  --rows takes pairs or matched-left, lone-left and lone-right, once each, with single commas" ++ 10 ∷ []

-- the line for an invalid list of columns
abbrev pub select_rule : List ℕ
select_rule =
    codes "  --select takes entries as L.id, name or R.city=town, with single commas and no blanks; a name with other signs is between double quotes" ++ 10 ∷ []

-- the line for an invalid delimiter
abbrev pub delimiter_rule : List ℕ
delimiter_rule = codes "  a delimiter is one ASCII character that is no letter, digit or double quote, or the word tab" ++ 10 ∷ []
