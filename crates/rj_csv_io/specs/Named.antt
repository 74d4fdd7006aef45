-- The names of a header's columns, where each field that has no name, or repeats one, is given one.
use Rattle.std.specs.Prelude.{ℕ, zero, suc, ◌+◌, ◌==◌, ◌&&◌, ◌||◌, not, nat_le, nat_lt, Bool, true, false, if◌then◌else◌, List, [], ◌∷◌, ◌++◌, map, take, length, codes, decimal}
use Rattle.std.specs.List.{list_any}
use Rattle.std.specs.Str.{is_utf8, str_eq_ignore_ascii_case}

-- a column's name, and whether it was given to a field
pub record Column : Type 0 where
  pub name : List ℕ
  pub is_given : Bool

abbrev pub names_of : List Column → List (List ℕ)
names_of columns = map (λ (c : Column). c.name) columns

-- a name is among these, ignoring ASCII case
abbrev pub is_taken : List (List ℕ) → List ℕ → Bool
is_taken taken name = list_any (str_eq_ignore_ascii_case name) taken

-- a field without a name, or with one that is among those to its left
abbrev pub needs_name : List (List ℕ) → List ℕ → Bool
needs_name left field = (length field == 0) || is_taken left field

-- no field from here on needs a name
unfoldable pub have_names : List (List ℕ) → List (List ℕ) → Bool
have_names left [] = true
have_names left (f ∷ fields) = not (needs_name left f) && have_names (left ++ f ∷ []) fields

-- a name that isn't too long for a number behind it: at most 100 bytes of UTF-8
abbrev pub is_stem : List ℕ → Bool
is_stem field = nat_lt 0 (length field) && nat_le (length field) 100 && is_utf8 field

-- what a name begins with: the field, if that may be, and else `column_` and the column's number
abbrev pub stem_of : ℕ → List ℕ → List ℕ
stem_of column field = if is_stem field then field else codes "column_" ++ decimal column

-- a stem with a number behind it, such as `name_2`; 1 isn't written
abbrev pub numbered : List ℕ → ℕ → List ℕ
numbered stem n = if nat_le n 1 then stem else stem ++ (codes "_" ++ decimal n)

-- the stem with the first of these numbers that makes it none of the taken names, or with the last
unfoldable pub free_from : List (List ℕ) → List ℕ → ℕ → ℕ → List ℕ
free_from taken stem n zero = numbered stem n
free_from taken stem n (suc more) = if is_taken taken (numbered stem n) then free_from taken stem (n + 1) more else numbered stem n

-- the stem with the first number that makes it none of the taken names
abbrev pub free_name : List (List ℕ) → List ℕ → List ℕ
free_name taken stem = free_from taken stem 1 (length taken)

-- the column of the next of these fields, behind these columns
abbrev pub column_of : List (List ℕ) → List Column → List ℕ → Column
column_of fields done field =
    if needs_name (take (length done) fields) field
    then record { name = free_name (fields ++ names_of done) (stem_of (length done + 1) field); is_given = true }
    else record { name = field; is_given = false }

-- these columns, and then those of the rest of the fields
unfoldable pub columns_after : List (List ℕ) → List Column → List (List ℕ) → List Column
columns_after fields done [] = done
columns_after fields done (f ∷ rest) = columns_after fields (done ++ column_of fields done f ∷ []) rest

-- the columns of a header
abbrev pub columns_of : List (List ℕ) → List Column
columns_of fields = columns_after fields [] fields

-- their names: no field that needs none is changed
abbrev pub completed_names : List (List ℕ) → List (List ℕ)
completed_names fields = names_of (columns_of fields)

-- the names that were given, each with the number of its column, from this number on
unfoldable pub given_from : ℕ → List Column → List (ℕ × List ℕ)
given_from column [] = []
given_from column (c ∷ columns) = if c.is_given then (column, c.name) ∷ given_from (column + 1) columns else given_from (column + 1) columns
