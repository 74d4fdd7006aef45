-- How types and names are shown, each on one line.
use Rattle.std.specs.Prelude.{ℕ, List, [], ◌∷◌, ◌++◌, ◌-◌, nat_lt, if◌then◌else◌, codes, decimal, length, take, Option, None, Some}
use Rattle.std.specs.List.{flat_map}
use Rattle.rj_columns.specs.declared.cell.ColumnType.{ColumnType}
use Rattle.rj_columns.specs.declared.cell.ColumnType.TheVariants as kind
use Rattle.rj_line.specs.Shown.{shown}

-- the word of a type, as a type list has it
abbrev pub type_word : ColumnType → List ℕ
type_word kind.Int = codes "int"
type_word (kind.Num t) = codes "num(" ++ (decimal t.precision ++ (codes "," ++ (decimal t.scale ++ codes ")")))
type_word kind.Text = codes "text"

-- what a cell of this type has to be
abbrev pub wanted_word : ColumnType → List ℕ
wanted_word kind.Int = type_word kind.Int
wanted_word (kind.Num t) = type_word (kind.Num t)
wanted_word kind.Text = codes "UTF-8"

-- how many digits it may have
abbrev pub wanted_rule : ColumnType → List ℕ
wanted_rule (kind.Num t) =
    codes ": at most " ++ (decimal (t.precision - t.scale) ++ (codes " digits before the point and " ++ (decimal t.scale ++ codes " after it")))
wanted_rule _ = []

-- names with commas between
abbrev pub listed : List (List ℕ) → List ℕ
listed [] = []
listed (n ∷ ns) = n ++ flat_map (λ m. codes ", " ++ m) ns

-- if there are more than 20, the first ones, and how many more there are
abbrev pub names_text : List (List ℕ) → List ℕ
names_text names =
    listed (take 20 names) ++ (if nat_lt 20 (length names) then codes " and " ++ (decimal (length names - 20) ++ codes " more") else [])

-- a question at the end of a line: whether this name was meant
abbrev pub meant_text : Option (List ℕ) → List ℕ
meant_text None = []
meant_text (Some name) = codes "; did you mean " ++ (shown name ++ codes "?")
