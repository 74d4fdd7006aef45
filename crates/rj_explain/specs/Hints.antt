-- What is said of a whole file that is no CSV in UTF-8 with its delimiter.
use Rattle.std.specs.Prelude.{ℕ, Bool, false, ◌==◌, ◌||◌, ◌&&◌, not, List, [], ◌∷◌, ◌++◌, codes, nat_eq, Option, None, Some, if◌then◌else◌}
use Rattle.std.specs.List.{list_any, starts_with}
use Rattle.rj_line.specs.declared.fault.Fault.{Fault}
use Rattle.rj_line.specs.declared.fault.Fault.TheVariants as fault
use Rattle.rj_line.specs.declared.fault.Side.{Side}
use Rattle.rj_line.specs.declared.fault.Side.TheVariants as side
use Rattle.rj_line.specs.Shown.{is_text}
use Rattle.rj_explain.specs.declared.hints.Separator.{Separator}
use Rattle.rj_explain.specs.declared.hints.Separator.TheVariants as separator

-- what another kind of file is, by its first bytes, and what makes a table of it
unfoldable pub kind_words : List ℕ → List ℕ
kind_words file =
    if starts_with nat_eq file (31 ∷ 139 ∷ []) then codes "is compressed: gzip -dc FILE > table.csv unpacks it"
    else (if starts_with nat_eq file (253 ∷ 55 ∷ 122 ∷ 88 ∷ 90 ∷ []) then codes "is compressed: xz -dc FILE > table.csv unpacks it"
    else (if starts_with nat_eq file (80 ∷ 75 ∷ 3 ∷ 4 ∷ []) then codes "is a zip archive or a spreadsheet: unzip it, or save the sheet as CSV in UTF-8"
    else (if starts_with nat_eq file (255 ∷ 254 ∷ []) || starts_with nat_eq file (254 ∷ 255 ∷ []) then codes "is UTF-16: iconv -f UTF-16 -t UTF-8 FILE > table.csv converts it"
    else [])))

-- a cell is refused, and the file isn't UTF-8; or a name is, and one of the header isn't
abbrev pub is_foreign : Fault → List ℕ → List (List ℕ) → Bool
is_foreign (fault.BadText s row column) file names = not (is_text file)
is_foreign (fault.BadName s column) file names = list_any (λ n. not (is_text n)) names
is_foreign _ file names = false

-- what is said of it then
abbrev pub foreign_words : Fault → List ℕ → List (List ℕ) → List ℕ
foreign_words told file names =
    if is_foreign told file names then codes "isn't UTF-8: iconv -f WINDOWS-1252 -t UTF-8 FILE > table.csv, if it is Latin-1" else []

-- a sign that isn't the delimiter is in a name
abbrev pub stands_in : ℕ → ℕ → List ℕ → Bool
stands_in d sign name = not (d == sign) && list_any (λ b. b == sign) name

-- the sign that separates the fields of a file in place of its delimiter, if it is in this name
abbrev pub separator_in : ℕ → List ℕ → Option Separator
separator_in d name =
    if stands_in d 59 name then Some separator.Semicolon
    else (if stands_in d 9 name then Some separator.Tab
    else (if stands_in d 124 name then Some separator.Bar
    else (if stands_in d 44 name then Some separator.Comma
    else None)))

-- the same of the one name of a header
abbrev pub separator_of : ℕ → List (List ℕ) → Option Separator
separator_of d (name ∷ []) = separator_in d name
separator_of d _ = None

-- what several of the sign are called
abbrev pub plural : Separator → List ℕ
plural separator.Semicolon = codes "semicolons"
plural separator.Tab = codes "tabs"
plural separator.Bar = codes "bars"
plural separator.Comma = codes "commas"

-- the sign as a shell's word after an option
abbrev pub shell_word : Separator → List ℕ
shell_word separator.Semicolon = codes "';'"
shell_word separator.Tab = codes "tab"
shell_word separator.Bar = codes "'|'"
shell_word separator.Comma = codes "','"

-- what stands before the word for a file: which side's it is, unless it is the only one
abbrev pub before_file : Option Side → List ℕ
before_file (Some side.Left) = codes "left "
before_file (Some side.Right) = codes "right "
before_file None = []

-- the same before the name of an option
abbrev pub before_option : Option Side → List ℕ
before_option (Some side.Left) = codes "left-"
before_option (Some side.Right) = codes "right-"
before_option None = []

-- what is said of a file that a sign separates
abbrev pub separator_words : Option Side → Option Separator → List ℕ
separator_words label None = []
separator_words label (Some sign) =
    codes "seems to be separated by " ++ (plural sign ++ (codes ": is --" ++ (before_option label ++ (codes "delimiter " ++ (shell_word sign ++ codes " meant?")))))

-- the first of two that isn't empty
abbrev pub first_words : List ℕ → List ℕ → List ℕ
first_words [] more = more
first_words (b ∷ words) more = b ∷ words

-- what is said of a file with this delimiter and these names in its header
abbrev pub file_words : Option Side → ℕ → Fault → List ℕ → List (List ℕ) → List ℕ
file_words label d told file names =
    first_words (first_words (kind_words file) (foreign_words told file names)) (separator_words label (separator_of d names))

-- a line for it
abbrev pub file_line : Option Side → List ℕ → List ℕ
file_line label [] = []
file_line label (b ∷ words) = codes "  the " ++ (before_file label ++ (codes "file " ++ ((b ∷ words) ++ 10 ∷ [])))

-- a line for the sign that separates the fields of a file, by the names of its columns
abbrev pub separator_line : Option Side → ℕ → List (List ℕ) → List ℕ
separator_line label d names = file_line label (separator_words label (separator_of d names))

-- the side in whose file an error is, if more is to be said of the whole file
abbrev pub file_side : Fault → Option Side
file_side (fault.BadName s column) = Some s
file_side (fault.RepeatedName s column) = Some s
file_side (fault.TypeCount s) = Some s
file_side (fault.RaggedRow s row) = Some s
file_side (fault.BadInteger s row column) = Some s
file_side (fault.BadText s row column) = Some s
file_side (fault.TooManyColumns s) = Some s
file_side (fault.OpenQuote s row column) = Some s
file_side (fault.AfterQuote s row column) = Some s
file_side (fault.BareQuote s row column) = Some s
file_side (fault.BareReturn s row column) = Some s
file_side (fault.EmptyLine s row) = Some s
file_side (fault.TypeName s name) = Some s
file_side _ = None
