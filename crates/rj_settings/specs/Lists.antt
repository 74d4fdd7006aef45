-- Type lists: `int,num(9,2),text` by position, `id=int,"the price"=num(9,2),*=text` by name.
use Rattle.std.specs.Prelude.{◌≡◌, ◌==◌, ◌&&◌, ◌||◌, nat_le, length, ℕ, Bool, true, false, Option, Some, List, ◌++◌}
use Rattle.std.specs.List.{count_by, list_all}
use Rattle.rj_settings.specs.declared.types.entry.Label.{Label}
use Rattle.rj_settings.specs.declared.types.entry.Label.TheVariants.{Name, Place, Rest}
use Rattle.rj_settings.specs.declared.types.entry.TypeEntry.{TypeEntry}
use Rattle.rj_settings.specs.Labels.{IsLabelText}
use Rattle.rj_settings.specs.Separated.{AreSeparated, Begins}
use Rattle.rj_settings.specs.Words.{IsTypeWord}

-- an entry: perhaps a label, and a type
abbrev pub IsEntry : TypeEntry → List ℕ → Type 0
IsEntry e text = (label word : List ℕ) × IsLabelText e.label label × IsTypeWord e.kind word × (text ≡ label ++ word)

-- a list begins with this entry, and this much of it is left
abbrev pub BeginsEntry : TypeEntry → List ℕ → Option (List ℕ) → Type 0
BeginsEntry e text rest = Begins IsEntry e text rest

-- the entries of what is left of a list
abbrev pub AreEntries : List TypeEntry → Option (List ℕ) → Type 0
AreEntries entries text = AreSeparated IsEntry entries text

abbrev pub is_place : Label → Bool
is_place Place = true
is_place _ = false

abbrev pub is_rest : Label → Bool
is_rest Rest = true
is_rest _ = false

abbrev pub is_name : Label → Bool
is_name (Name n) = true
is_name _ = false

-- no label at all, or one at each type and at most one `*`
abbrev pub are_alike : List TypeEntry → Bool
are_alike entries = count_by (λ e. is_place e.label) entries == length entries
    || (count_by (λ e. is_place e.label) entries == 0 && nat_le (count_by (λ e. is_rest e.label) entries) 1)

-- one or more entries, all by position or all by name
abbrev pub IsTypeList : List ℕ → List TypeEntry → Type 0
IsTypeList text entries = AreEntries entries (Some text) × (are_alike entries ≡ true)

-- a list for both tables: each entry has a name
abbrev pub IsSharedList : List ℕ → List TypeEntry → Type 0
IsSharedList text entries = IsTypeList text entries × (list_all (λ e. is_name e.label) entries ≡ true)
