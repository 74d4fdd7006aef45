-- How far apart two names are.
use Rattle.std.specs.Prelude.{ℕ, ◌≡◌, ◌≢◌, ◌<◌, ◌≤◌, ◌+◌, ◌/◌, List, [], length, map, min, nat_eq, None, Option, Some, slice_get}
use Rattle.std.specs.Char.{to_ascii_lowercase}
use Rattle.std.specs.Str.{chars}
use Rattle.strsim.specs.Edits.{damerau}

-- upper and lower case are the same
abbrev pub lowered : List ℕ → List ℕ
lowered name = map to_ascii_lowercase name

-- this many edits lead from one text to another (Damerau and Levenshtein)
pub record AreEdits (from to : List ℕ) (count : ℕ) : Type 0 where
  pub same : from ≡ to → count ≡ 0
  pub from_nothing : chars from ≡ [] → count ≡ length (chars to)
  pub to_nothing : chars to ≡ [] → count ≡ length (chars from)
  pub apart : from ≢ to → chars from ≢ [] → chars to ≢ [] → count ≡ damerau nat_eq (chars from) (chars to)

-- how far away a suggested name is at most
abbrev pub most_edits : List ℕ → ℕ
most_edits wanted = min (length wanted / 2) 2

-- at least so many edits lead to each of the first names of a list
abbrev pub AreFar : List ℕ → List (List ℕ) → ℕ → ℕ → Type 0
AreFar wanted names end least =
    (k count : ℕ) (name : List ℕ) → k < end → slice_get names k ≡ Some name → AreEdits (lowered wanted) (lowered name) count → least ≤ count

-- the first of those names that are nearest, and it is near
pub record IsNearest (wanted : List ℕ) (names : List (List ℕ)) (name : List ℕ) : Type 0 where
  pub at : ℕ
  pub here : slice_get names at ≡ Some name
  pub count : ℕ
  pub counted : AreEdits (lowered wanted) (lowered name) count
  pub near : count ≤ most_edits wanted
  pub above : AreFar wanted names at (count + 1)
  pub least : AreFar wanted names (length names) count

-- the name among these that may have been meant; none if none is near
abbrev pub IsMeant : List ℕ → List (List ℕ) → Option (List ℕ) → Type 0
IsMeant wanted names None = AreFar wanted names (length names) (most_edits wanted + 1)
IsMeant wanted names (Some name) = IsNearest wanted names name
