-- Why an entry of a list of columns is refused.
use Rattle.std.specs.Prelude.{ℕ, ◌≡◌, Bool, false, List, [], ◌∷◌, ◌++◌, map, Option, None, Some}
use Rattle.std.specs.List.{position_from}
use Rattle.std.specs.Str.{str_eq_ignore_ascii_case}
use Rattle.rj_columns.specs.Tables.{TableValue}
use Rattle.rj_condition.specs.declared.bound.BoundJoin.{BoundJoin}
use Rattle.rj_condition.specs.declared.tree.Name.{Name}
use Rattle.rj_engine.specs.Cells.{name_of}
use Rattle.rj_engine.specs.Naming.{name_of_entry, new_or_own}
use Rattle.rj_engine.specs.Selected.{columns_from, columns_named}
use Rattle.rj_settings.specs.declared.choice.ColumnChoice.{ColumnChoice}
use Rattle.rj_settings.specs.declared.choice.ColumnChoice.TheVariants as column_choice
use Rattle.rj_settings.specs.declared.choice.SelectedColumn.{SelectedColumn}
use Rattle.rj_explain.specs.Lines.{both_words, twice_words}

-- the entries of a list of columns, if that is how they are chosen
abbrev pub entries_of : ColumnChoice → Option (List SelectedColumn)
entries_of column_choice.All = None
entries_of column_choice.Left = None
entries_of column_choice.Right = None
entries_of (column_choice.Selected entries) = Some entries.items

-- the names of the columns that an entry's name means, of those among which it is looked for
abbrev pub meant_by : BoundJoin → TableValue → TableValue → SelectedColumn → List (List ℕ)
meant_by join l r entry = map (name_of l r) (columns_named l r entry.name (columns_from entry.source join l r))

-- there is a name, and it is this one, ignoring ASCII case
abbrev pub is_alike : List ℕ → Option (List ℕ) → Bool
is_alike name None = false
is_alike name (Some other) = str_eq_ignore_ascii_case name other

-- the number of the first entry that is written under a name, counted from 1
abbrev pub number_under : BoundJoin → TableValue → TableValue → List SelectedColumn → List ℕ → Option ℕ
number_under join l r entries name = position_from (λ entry. is_alike name (name_of_entry join l r entry)) 1 entries

-- the words for an entry that is written under this name, by those before it
abbrev pub repeated_words : BoundJoin → TableValue → TableValue → List SelectedColumn → Option (List ℕ) → List ℕ
repeated_words join l r earlier None = 10 ∷ []
repeated_words join l r earlier (Some name) = twice_words name (number_under join l r earlier name)

-- The words for an entry, by the names of the columns that it means: if there is none, what is said of such
-- a name, and of the files; if there is one, that its name is written twice; and else that both tables
-- have it.
abbrev pub IsWhy : List (List ℕ) → (List ℕ → Type 0) → List ℕ → List ℕ → List ℕ → Type 0
IsWhy [] unknown files repeated words = (told : List ℕ) × unknown told × (words ≡ told ++ files)
IsWhy (own ∷ []) unknown files repeated words = words ≡ repeated
IsWhy (own ∷ (other ∷ names)) unknown files repeated words = words ≡ both_words

-- What a function says that finds the name of an entry. Internal: no public contract uses it.

-- the name of an entry, by the new one that it gives and the names of the columns that it means
abbrev pub name_among : Option Name → List (List ℕ) → Option (List ℕ)
name_among new [] = None
name_among new (own ∷ []) = Some (new_or_own new own)
name_among new (own ∷ (other ∷ names)) = None
