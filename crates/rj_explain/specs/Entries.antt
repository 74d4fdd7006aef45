-- The entries of a type list, valid or not: what is between commas that are in neither double
-- quotes nor parentheses. A place in a text is given by the bytes before it, the nearest first.
use Rattle.std.specs.Prelude.{ℕ, ◌≡◌, ◌+◌, ◌%◌, ◌==◌, ◌&&◌, ◌||◌, not, Bool, false, List, [], ◌∷◌, Option, None, Some, count_by, if◌then◌else◌}
use Rattle.rj_explain.specs.declared.entries.Enclosed.{Enclosed}

-- an odd number of double quotes is before the place
abbrev pub is_quoted : List ℕ → Bool
is_quoted before = count_by (λ b. b == 34) before % 2 == 1

-- the nearest parenthesis before it that isn't quoted is an opening one
abbrev pub is_nested : List ℕ → Bool
is_nested [] = false
is_nested (b ∷ before) = if (b == 40 || b == 41) && not (is_quoted before) then b == 40 else is_nested before

-- a comma in neither is between two entries
abbrev pub separates : List ℕ → ℕ → Bool
separates before b = b == 44 && not (is_quoted before || is_nested before)

-- the first entry begins with this byte
abbrev pub begun : ℕ → List (List ℕ) → List (List ℕ)
begun b [] = (b ∷ []) ∷ []
begun b (entry ∷ entries) = (b ∷ entry) ∷ entries

-- the entries of what is behind a place
abbrev pub entries_behind : List ℕ → List ℕ → List (List ℕ)
entries_behind before [] = [] ∷ []
entries_behind before (b ∷ text) = if separates before b then [] ∷ entries_behind (b ∷ before) text else begun b (entries_behind (b ∷ before) text)

abbrev pub split_entries : List ℕ → List (List ℕ)
split_entries text = entries_behind [] text

-- What the functions that find the first entry say. Internal: no public contract uses it.

-- what is known of a place whose bytes before it are these
abbrev pub IsBehind : List ℕ → Enclosed → Type 0
IsBehind before place = (place.quoted ≡ is_quoted before) × (place.nested ≡ is_nested before)

-- how many bytes the first entry has
abbrev pub entry_length : List ℕ → List ℕ → ℕ
entry_length before [] = 0
entry_length before (b ∷ text) = if separates before b then 0 else entry_length (b ∷ before) text + 1

-- those behind the comma of the first one, if it has one
abbrev pub further : Option (List ℕ) → List (List ℕ)
further None = []
further (Some text) = split_entries text
