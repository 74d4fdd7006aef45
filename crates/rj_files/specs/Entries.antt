-- Entries of a list of suggested types.
use Rattle.std.specs.Prelude.{ℕ, Bool, ◌&&◌, ◌==◌, nat_eq, nat_lt, List, Option, length, slice_index}
use Rattle.std.specs.List.{find, slice_split, starts_with}

-- an entry begins with a name and `=`
abbrev pub is_entry_for : List ℕ → List ℕ → Bool
is_entry_for name entry = starts_with nat_eq entry name && nat_lt (length name) (length entry) && (slice_index entry (length name) == 61)

-- the first entry for a column of this name, in a list with an entry on each line
abbrev pub entry_for : List ℕ → List ℕ → Option (List ℕ)
entry_for name list = find (λ entry. is_entry_for name entry) (slice_split (λ b. b == 10) list)
