-- The types that a type list gives the columns of a header.
use Rattle.std.specs.Prelude.{◌&&◌, ◌||◌, not, if◌then◌else◌, ℕ, Bool, false, Option, None, Some, List, [], ◌∷◌, ◌++◌, map}
use Rattle.std.specs.List.{filter_map, list_all, list_any}
use Rattle.rj_columns.specs.declared.cell.ColumnType.{ColumnType}
use Rattle.rj_columns.specs.declared.cell.ColumnType.TheVariants as kind
use Rattle.rj_condition.specs.Names.{matches}
use Rattle.rj_settings.specs.Lists.{is_place, is_rest}
use Rattle.rj_settings.specs.declared.types.entry.Label.{Label}
use Rattle.rj_settings.specs.declared.types.entry.Label.TheVariants.{Name, Rest, Shared}
use Rattle.rj_settings.specs.declared.types.entry.TypeEntry.{TypeEntry}

-- whether the label names a column of this name
abbrev pub names : List ℕ → Label → Bool
names called (Name n) = matches n called
names called (Shared n) = matches n called
names called _ = false

-- the type of the first entry whose label passes
abbrev pub first_kind : (Label → Bool) → List TypeEntry → Option ColumnType
first_kind passes [] = None
first_kind passes (e ∷ es) = if passes e.label then Some e.kind else first_kind passes es

abbrev pub or_else : {A : Type 0} → Option A → Option A → Option A
or_else (Some x) other = Some x
or_else None other = other

-- the type of the entry that names a column of this name, or else that of `*`
abbrev pub kind_of : List TypeEntry → List ℕ → Option ColumnType
kind_of entries called = or_else (first_kind (names called) entries) (first_kind is_rest entries)

-- the types of a list by position, or of those columns of the header that have one in a list by name
abbrev pub types_under : List TypeEntry → List (List ℕ) → List ColumnType
types_under entries header =
    if list_all (λ e. is_place e.label) entries then map (λ e. e.kind) entries else filter_map (kind_of entries) header

-- the name in a label that means no column of the header, or one that an earlier entry names
abbrev pub label_fault : List TypeEntry → List (List ℕ) → Label → Option (List ℕ)
label_fault seen header (Name n) =
    if list_any (λ called. matches n called && not (list_any (λ e. names called e.label) seen)) header then None else Some n.text
label_fault seen header _ = None

-- the first such name, after the entries that were seen
abbrev pub name_fault_behind : List TypeEntry → List TypeEntry → List (List ℕ) → Option (List ℕ)
name_fault_behind seen [] header = None
name_fault_behind seen (e ∷ es) header = or_else (label_fault seen header e.label) (name_fault_behind (seen ++ e ∷ []) es header)

abbrev pub name_fault : List TypeEntry → List (List ℕ) → Option (List ℕ)
name_fault entries header = name_fault_behind [] entries header

-- a list says nothing of some columns: it isn't by position, and has no `*`
abbrev pub is_open : List TypeEntry → Bool
is_open entries = not (list_any (λ e. is_place e.label || is_rest e.label) entries)

-- the entry `*=text`
abbrev pub text_of_rest : TypeEntry
text_of_rest = record { label = Rest; kind = kind.Text }

-- the same list with `*=text`, if it says nothing of some columns
abbrev pub with_texts : List TypeEntry → List TypeEntry
with_texts entries = if is_open entries then entries ++ text_of_rest ∷ [] else entries

-- the label of an entry for both tables, as it is in the list of one of them
abbrev pub shared_label : Label → Label
shared_label (Name n) = Shared n
shared_label label = label

abbrev pub shared_entry : TypeEntry → TypeEntry
shared_entry e = record { label = shared_label e.label; kind = e.kind }

-- a table's list with the entries for both tables behind its own; a list by position says all itself
abbrev pub with_shared : List TypeEntry → List TypeEntry → List TypeEntry
with_shared entries shared = if list_any (λ e. is_place e.label) entries then entries else entries ++ map shared_entry shared
