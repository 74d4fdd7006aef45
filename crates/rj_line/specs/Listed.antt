-- Lists in a file.
use Rattle.std.specs.Prelude.{ℕ, ◌==◌, ◌&&◌, Bool, true, false, not, if◌then◌else◌, List, [], ◌∷◌, ◌++◌, Option, Some, None}
use Rattle.std.specs.Option.{option_to_list}

-- what a byte outside double quotes gives, by what follows it: a line end (LF, or CR LF) gives a
-- comma, and nothing at the file's end
abbrev pub outside_quotes : ℕ → List ℕ → Option ℕ
outside_quotes b [] = if b == 10 then None else Some b
outside_quotes b (next ∷ rest) = if b == 10 then Some 44 else if (b == 13) && (next == 10) then None else Some b

-- what a byte gives
abbrev pub in_list : Bool → ℕ → List ℕ → Option ℕ
in_list true b rest = Some b
in_list false b rest = outside_quotes b rest

-- whether double quotes are open after a byte
abbrev pub quoted_behind : Bool → ℕ → Bool
quoted_behind quoted b = if b == 34 then not quoted else quoted

-- the list that these bytes of a file write, if double quotes are open before them or not
unfoldable pub list_from : Bool → List ℕ → List ℕ
list_from quoted [] = []
list_from quoted (b ∷ bs) = option_to_list (in_list quoted b bs) ++ list_from (quoted_behind quoted b) bs

-- the list that a file's bytes write: its lines, each ended by LF or CR LF, with commas between them
abbrev pub list_in : List ℕ → List ℕ
list_in bytes = list_from false bytes
