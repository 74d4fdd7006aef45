-- The lines for an invalid type list.
use Rattle.std.specs.Prelude.{ℕ, ◌≡◌, ◌+◌, ◌⊎◌, All, List, [], ◌∷◌, ◌++◌, codes, drop, length, nat_eq, Option, None, Some, if◌then◌else◌, slice_get}
use Rattle.std.specs.List.{starts_with}
use Rattle.std.specs.Str.{bytes_eq}
use Rattle.rj_line.specs.declared.fault.Fault.{Fault}
use Rattle.rj_line.specs.declared.fault.Fault.TheVariants as fault
use Rattle.rj_line.specs.declared.fault.Side.{Side}
use Rattle.rj_line.specs.declared.fault.Side.TheVariants as side
use Rattle.rj_settings.specs.Lists.{IsTypeList}
use Rattle.rj_settings.specs.declared.types.entry.TypeEntry.{TypeEntry}
use Rattle.rj_explain.specs.Entries.{split_entries}
use Rattle.rj_explain.specs.Lines.{delimiter_rule, entry_line, mixed_line, rows_rule, select_rule, shared_line}

abbrev pub IsList : List ℕ → Type 0
IsList text = (entries : List TypeEntry) × IsTypeList text entries

abbrev pub IsNoList : List ℕ → Type 0
IsNoList text = (entries : List TypeEntry) → IsTypeList text entries → ⊥

-- the first of a list's entries that is invalid by itself
pub record IsFirstBad (list entry : List ℕ) : Type 0 where
  pub before : List (List ℕ)
  pub behind : List (List ℕ)
  pub among : split_entries list ≡ before ++ entry ∷ behind
  pub first : All IsList before
  pub bad : IsNoList entry

-- That entry, and what it has to be. Or, if each entry is valid by itself, the rule by which they
-- go together.
abbrev pub IsListTold : List ℕ → List ℕ → List ℕ → Type 0
IsListTold rule list lines =
    ((entry why : List ℕ) × IsFirstBad list entry × (lines ≡ entry_line entry why))
    ⊎ (All IsList (split_entries list) × (lines ≡ rule))

-- The value of an option among words: the word behind the first one that is the option, or what is
-- behind `=` in the first one that begins with both, whichever comes first.
abbrev pub value_of : List ℕ → List (List ℕ) → Option (List ℕ)
value_of option [] = None
value_of option (word ∷ words) =
    if bytes_eq word option then slice_get words 0
    else (if starts_with nat_eq word (option ++ 61 ∷ []) then Some (drop (length option + 1) word) else value_of option words)

abbrev pub types_option : Side → List ℕ
types_option side.Left = codes "--left-types"
types_option side.Right = codes "--right-types"

-- the lines for a list, if there is one
abbrev pub IsValueTold : List ℕ → Option (List ℕ) → Option (List ℕ) → Type 0
IsValueTold rule None told = told ≡ None
IsValueTold rule (Some list) None = ⊥
IsValueTold rule (Some list) (Some lines) = IsListTold rule list lines

-- the lines for an error of the command line with these words: those for an invalid type list, list
-- of rows, list of columns or delimiter
abbrev pub AreWordsTold : Fault → List (List ℕ) → Option (List ℕ) → Type 0
AreWordsTold (fault.BadTypeList s) words told = IsValueTold mixed_line (value_of (types_option s) words) told
AreWordsTold fault.BadSharedTypeList words told = IsValueTold shared_line (value_of (codes "--types") words) told
AreWordsTold fault.BadRows words told = told ≡ Some rows_rule
AreWordsTold fault.BadSelect words told = told ≡ Some select_rule
AreWordsTold fault.BadDelimiter words told = told ≡ Some delimiter_rule
AreWordsTold _ words told = told ≡ None
