-- The names under which the columns of a joined table are written.
use Rattle.std.specs.Prelude.{◌≡◌, ℕ, zero, suc, ◌+◌, ◌&&◌, Bool, not, if◌then◌else◌, List, [], ◌∷◌, ◌++◌, codes, fold, length, map, take}
use Rattle.std.specs.Prelude.{Option, None, Some, Result, Ok, Err, option_map}
use Rattle.std.specs.List.{find, list_any, range_with_len}
use Rattle.std.specs.Str.{str_eq_ignore_ascii_case}
use Rattle.rj_columns.specs.Names.{is_name, name_fault}
use Rattle.rj_columns.specs.Tables.{TableValue}
use Rattle.rj_condition.specs.declared.bound.BoundJoin.{BoundJoin}
use Rattle.rj_condition.specs.declared.tree.Name.{Name}
use Rattle.rj_settings.specs.declared.choice.Choice.{Choice}
use Rattle.rj_settings.specs.declared.choice.ColumnChoice.{ColumnChoice}
use Rattle.rj_settings.specs.declared.choice.ColumnChoice.TheVariants as column_choice
use Rattle.rj_settings.specs.declared.choice.SelectedColumn.{SelectedColumn}
use Rattle.rj_settings.specs.declared.choice.Repeated.{Repeated}
use Rattle.rj_settings.specs.declared.choice.Repeated.TheVariants.{Kept, Qualified, Suffixed}
use Rattle.rj_engine.specs.declared.naming.NamingRefused.{NamingRefused}
use Rattle.rj_engine.specs.declared.naming.NamingRefused.TheVariants.{NoFreeName, SelectedName}
use Rattle.rj_engine.specs.Cells.{name_of}
use Rattle.rj_engine.specs.Chosen.{chosen_header}
use Rattle.rj_engine.specs.Selected.{column_of_entry}

-- a name is one of these, ignoring ASCII case
abbrev pub is_among : List (List ℕ) → List ℕ → Bool
is_among names name = list_any (str_eq_ignore_ascii_case name) names

-- a name can be written: it is a valid name of a table, and it is neither one of the header's nor
-- one that was written
abbrev pub is_free : List (List ℕ) → List (List ℕ) → List ℕ → Bool
is_free header written name = is_name name && not (is_among header name) && not (is_among written name)

-- a name with the mark of a repeated one: its table's letter and a point before it, or the suffix after it
abbrev pub with_mark : Repeated → List ℕ → List ℕ
with_mark Kept name = name
with_mark Qualified name = codes "R." ++ name
with_mark (Suffixed suffix) name = name ++ suffix.now

-- the same with this many marks
unfoldable pub marked : Repeated → List ℕ → ℕ → List ℕ
marked repeated name zero = name
marked repeated name (suc marks) = with_mark repeated (marked repeated name marks)

-- the first free one of a name with one mark, with two, and so on; past 128 marks, each of a byte
-- at least, none is a name
unfoldable pub free_name : Repeated → List (List ℕ) → List (List ℕ) → List ℕ → Option (List ℕ)
free_name repeated header written name = find (is_free header written) (map (marked repeated name) (range_with_len 1 128))

-- the header's next name after those that were written: unchanged, or a free one if it repeats an
-- earlier one
abbrev pub next_name : Repeated → List (List ℕ) → List (List ℕ) → List ℕ → Option (List ℕ)
next_name repeated header written name = if is_among (take (length written) header) name then free_name repeated header written name else Some name

-- the names that were written and one more, or the error of its column if there is none
abbrev pub with_name : List (List ℕ) → Option (List ℕ) → Result (List (List ℕ)) NamingRefused
with_name written None = Err (NoFreeName (length written + 1))
with_name written (Some name) = Ok (written ++ name ∷ [])

-- the same with the header's next name; after an error nothing more
abbrev pub with_next : Repeated → List (List ℕ) → Result (List (List ℕ)) NamingRefused → List ℕ → Result (List (List ℕ)) NamingRefused
with_next repeated header (Err e) name = Err e
with_next repeated header (Ok written) name = with_name written (next_name repeated header written name)

-- the header's names from left to right, each repeated one under a free name
unfoldable pub renamed : Repeated → List (List ℕ) → Result (List (List ℕ)) NamingRefused
renamed repeated header = fold (with_next repeated header) (Ok []) header

-- the names that are written of a header, or the first column that has no free name
abbrev pub written_names : Repeated → List (List ℕ) → Result (List (List ℕ)) NamingRefused
written_names Kept header = Ok header
written_names Qualified header = renamed Qualified header
written_names (Suffixed suffix) header = renamed (Suffixed suffix) header

-- the name under which a list writes a column: a new one, or the column's own
abbrev pub new_or_own : Option Name → List ℕ → List ℕ
new_or_own None own = own
new_or_own (Some new) own = new.text

-- the name of an entry's column, if the entry means one
abbrev pub name_of_entry : BoundJoin → TableValue → TableValue → SelectedColumn → Option (List ℕ)
name_of_entry join l r entry = option_map (λ o. new_or_own entry.written (name_of l r o)) (column_of_entry join l r entry)

-- a name, if it can be written after these
abbrev pub if_free : List (List ℕ) → Option (List ℕ) → Option (List ℕ)
if_free written None = None
if_free written (Some name) = if is_free [] written name then Some name else None

-- the names that were written and one more, or the error of its entry if there is none
abbrev pub with_selected : List (List ℕ) → Option (List ℕ) → Result (List (List ℕ)) NamingRefused
with_selected written None = Err (SelectedName (length written + 1))
with_selected written (Some name) = Ok (written ++ name ∷ [])

-- the same with an entry's name; after an error nothing more
abbrev pub with_entry : BoundJoin → TableValue → TableValue → Result (List (List ℕ)) NamingRefused → SelectedColumn
    → Result (List (List ℕ)) NamingRefused
with_entry join l r (Err e) entry = Err e
with_entry join l r (Ok written) entry = with_selected written (if_free written (name_of_entry join l r entry))

-- the names that a list writes, or its first entry that means no column or has a name that can't be written
unfoldable pub selected_names : BoundJoin → TableValue → TableValue → List SelectedColumn → Result (List (List ℕ)) NamingRefused
selected_names join l r entries = fold (with_entry join l r) (Ok []) entries

-- the names that are written of the columns that are chosen, or why there are none
abbrev pub names_by : ColumnChoice → Repeated → List (List ℕ) → BoundJoin → TableValue → TableValue
    → Result (List (List ℕ)) NamingRefused
names_by column_choice.All repeated header join l r = written_names repeated header
names_by column_choice.Left repeated header join l r = written_names repeated header
names_by column_choice.Right repeated header join l r = written_names repeated header
names_by (column_choice.Selected entries) repeated header join l r = selected_names join l r entries.items

abbrev pub chosen_names : Choice → BoundJoin → TableValue → TableValue → Result (List (List ℕ)) NamingRefused
chosen_names choice join l r = names_by choice.columns choice.repeated (chosen_header choice join l r) join l r

-- a table's names: one for each type, each valid, and no two the same
abbrev pub HasLawfulNames : TableValue → Type 0
HasLawfulNames t = (name_fault [] t.names ≡ None) × (length t.names ≡ length t.types)
