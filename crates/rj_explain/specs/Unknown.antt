-- What is said of a name that means no column: the names that there are, and the one that may have been
-- meant.
use Rattle.std.specs.Prelude.{ℕ, ◌≡◌, ◌-◌, ◌==◌, ◌&&◌, ◌||◌, if◌then◌else◌, Bool, false, not, true, List, [], ◌∷◌, ◌++◌, codes, is_some, length, nat_eq, MatchOption, Option, None, Some, option_and_then, option_map, slice_get, take}
use Rattle.std.specs.Char.{is_ascii_whitespace}
use Rattle.std.specs.List.{ends_with, find, list_any, suffix_len}
use Rattle.std.specs.Option.{option_or}
use Rattle.std.specs.Str.{bytes_eq, str_eq_ignore_ascii_case}
use Rattle.rj_columns.specs.Tables.{TableValue}
use Rattle.rj_condition.specs.Names.{matches}
use Rattle.rj_condition.specs.declared.refusals.RefusedColumn.{RefusedColumn}
use Rattle.rj_condition.specs.declared.refused.BindRefused.{BindRefused}
use Rattle.rj_condition.specs.declared.refused.BindRefused.TheVariants as refused
use Rattle.rj_condition.specs.declared.tree.Name.{Name}
use Rattle.rj_line.specs.Faults.{side_text}
use Rattle.rj_line.specs.declared.fault.Side.{Side}
use Rattle.rj_line.specs.declared.fault.Side.TheVariants as side
use Rattle.rj_settings.specs.declared.choice.Source.{Source}
use Rattle.rj_settings.specs.declared.choice.Source.TheVariants as source
use Rattle.rj_explain.specs.Lines.{both_words}
use Rattle.rj_explain.specs.Names.{IsMeant}
use Rattle.rj_explain.specs.Shown.{meant_text, names_text}
use Rattle.rj_line.specs.Shown.{shown}

-- the names of the two tables
pub record BothNames : Type 0 where
  pub left : List (List ℕ)
  pub right : List (List ℕ)

abbrev pub both_names : TableValue → TableValue → BothNames
both_names left right = record { left = left.names; right = right.names }

-- the table of a side
abbrev pub table_at : Side → TableValue → TableValue → TableValue
table_at side.Left left right = left
table_at side.Right left right = right

-- the names of a side
abbrev pub names_at : Side → BothNames → List (List ℕ)
names_at side.Left names = names.left
names_at side.Right names = names.right

-- the first of some names that is this one, ignoring ASCII case
abbrev pub alike_in : List (List ℕ) → List ℕ → Option (List ℕ)
alike_in names name = find (λ other. str_eq_ignore_ascii_case other name) names

-- the same of a side, with the side
abbrev pub alike_at : Side → BothNames → List ℕ → Option (Side × List ℕ)
alike_at s names name = option_map (λ other. (s, other)) (alike_in (names_at s names) name)

-- the same of the side that lacks a name, if one does, and else of any
abbrev pub alike_of : Option Side → BothNames → List ℕ → Option (Side × List ℕ)
alike_of None names name = option_or (alike_at side.Left names name) (alike_at side.Right names name)
alike_of (Some s) names name = alike_at s names name

-- the words for a delimited name that differs from one of a side's by ASCII case alone
abbrev pub case_words : Side → List ℕ → List ℕ
case_words s name = codes "; " ++ (side_text s ++ (codes " has " ++ (shown name ++ (codes ": between double quotes a name matches exactly" ++ 10 ∷ []))))

-- those for a name that a side's table doesn't have
abbrev pub side_words : Side → List ℕ → List (List ℕ) → Option (List ℕ) → List ℕ
side_words s has names meant = codes "; " ++ (side_text s ++ (codes " " ++ (has ++ (codes " " ++ (names_text names ++ (meant_text meant ++ 10 ∷ []))))))

-- those for a name that neither table has
abbrev pub neither_words : BothNames → Option (List ℕ) → List ℕ
neither_words names meant =
    codes "; left has " ++ (names_text names.left ++ (codes "; right has " ++ (names_text names.right ++ (meant_text meant ++ 10 ∷ []))))

-- the name of a side's table that may have been meant is told
abbrev pub IsSideTold : Side → List ℕ → BothNames → List ℕ → List ℕ → Type 0
IsSideTold s has names wanted words =
    (meant : Option (List ℕ)) × IsMeant wanted (names_at s names) meant × (words ≡ side_words s has (names_at s names) meant)

-- that of either table, of the left one if it has one
abbrev pub IsMeantOfBoth : BothNames → List ℕ → Option (List ℕ) → Type 0
IsMeantOfBoth names wanted meant =
    (first : Option (List ℕ)) × IsMeant wanted names.left first × MatchOption first (IsMeant wanted names.right meant) (λ name. meant ≡ Some name)

abbrev pub IsNeitherTold : BothNames → List ℕ → List ℕ → Type 0
IsNeitherTold names wanted words = (meant : Option (List ℕ)) × IsMeantOfBoth names wanted meant × (words ≡ neither_words names meant)

-- of a delimited name
abbrev pub if_delimited : {A : Type 0} → Bool → Option A → Option A
if_delimited delimited x = if delimited then x else None

-- a name behind a qualifier of a side, whose table doesn't have it
abbrev pub IsTableTold : Side → BothNames → List ℕ → Bool → List ℕ → Type 0
IsTableTold s names wanted delimited words =
    MatchOption (if_delimited delimited (alike_in (names_at s names) wanted)) (IsSideTold s (codes "has") names wanted words) (λ name. words ≡ case_words s name)

-- a name of a list of columns
abbrev pub IsEntryUnknown : Source → Name → BothNames → List ℕ → Type 0
IsEntryUnknown source.Joined name names words =
    MatchOption (if_delimited name.delimited (alike_of None names name.text)) (IsNeitherTold names name.text words) (λ other. words ≡ case_words other.0 other.1)
IsEntryUnknown source.Left name names words = IsTableTold side.Left names name.text name.delimited words
IsEntryUnknown source.Right name names words = IsTableTold side.Right names name.text name.delimited words

-- the side that lacks a name which the other one has
abbrev pub lacking : Bool → Bool → Option Side
lacking true true = None
lacking true false = Some side.Right
lacking false true = Some side.Left
lacking false false = None

abbrev pub lacking_side : BothNames → Name → Option Side
lacking_side names name = lacking (list_any (matches name) names.left) (list_any (matches name) names.right)

-- a name of a clause without a qualifier, which has to be in both tables if it is in USING
abbrev pub IsLackTold : Option Side → BothNames → List ℕ → List ℕ → Type 0
IsLackTold None names wanted words = IsNeitherTold names wanted words
IsLackTold (Some s) names wanted words = IsSideTold s (codes "lacks it, and has") names wanted words

abbrev pub IsBareTold : Name → BothNames → List ℕ → Type 0
IsBareTold name names words =
    MatchOption (if_delimited name.delimited (alike_of (lacking_side names name) names name.text))
    (IsLackTold (lacking_side names name) names name.text words) (λ other. words ≡ case_words other.0 other.1)

-- a double quote is at a byte of a clause
abbrev pub is_quote : Option ℕ → Bool
is_quote None = false
is_quote (Some b) = b == 34

abbrev pub is_quoted_at : List ℕ → ℕ → Bool
is_quoted_at clause at = is_quote (slice_get clause at)

-- a text without the white space at its end
abbrev pub trimmed : List ℕ → List ℕ
trimmed text = take (length text - suffix_len is_ascii_whitespace text) text

-- what comes before a sign with which a text ends
abbrev pub before_end : ℕ → List ℕ → Option (List ℕ)
before_end sign text = if ends_with nat_eq text (sign ∷ []) then Some (take (length text - 1) text) else None

-- the same but for white space behind the sign
abbrev pub before_sign : ℕ → List ℕ → Option (List ℕ)
before_sign sign text = before_end sign (trimmed text)

-- a double quote and then a point come before a byte of a clause
abbrev pub is_behind_quote : List ℕ → ℕ → Bool
is_behind_quote clause at = is_some (option_and_then (before_sign 34) (before_sign 46 (take at clause)))

-- the side that a qualifier means; one that isn't delimited ignores case
abbrev pub side_meant : List ℕ → Bool → Option Side
side_meant qualifier delimited =
    if bytes_eq qualifier (codes "L") || (bytes_eq qualifier (codes "l") && not delimited) then Some side.Left
    else (if bytes_eq qualifier (codes "R") || (bytes_eq qualifier (codes "r") && not delimited) then Some side.Right else None)

-- the words for a name behind a qualifier that means none
abbrev pub why_no_side : List ℕ → List ℕ
why_no_side qualifier =
    if str_eq_ignore_ascii_case qualifier (codes "L") || str_eq_ignore_ascii_case qualifier (codes "R")
    then codes ": between double quotes a name matches exactly" else []

abbrev pub no_side_words : List ℕ → List ℕ
no_side_words qualifier = codes " stands behind " ++ (shown qualifier ++ (codes ", which is neither L nor R" ++ (why_no_side qualifier ++ 10 ∷ [])))

abbrev pub IsBehindTold : Option Side → List ℕ → BothNames → List ℕ → Bool → List ℕ → Type 0
IsBehindTold None qualifier names wanted delimited words = words ≡ no_side_words qualifier
IsBehindTold (Some s) qualifier names wanted delimited words = IsTableTold s names wanted delimited words

-- a name of a clause, which is delimited if a double quote is where it begins
abbrev pub name_found : List ℕ → RefusedColumn → Name
name_found clause found = record { text = found.name; delimited = is_quoted_at clause found.at }

-- a name of a clause that means no column; its qualifier is delimited if a double quote ends it
abbrev pub IsUnknownTold : List ℕ → RefusedColumn → Option (List ℕ) → BothNames → List ℕ → Type 0
IsUnknownTold clause found None names words = IsBareTold (name_found clause found) names words
IsUnknownTold clause found (Some qualifier) names words =
    IsBehindTold (side_meant qualifier (is_behind_quote clause found.at)) qualifier names found.name (is_quoted_at clause found.at) words

-- a name of a clause, by the reason why it is refused
abbrev pub IsReasonTold : BindRefused → List ℕ → RefusedColumn → BothNames → List ℕ → Type 0
IsReasonTold refused.UnknownColumn clause found names words = IsUnknownTold clause found found.qualifier names words
IsReasonTold refused.AmbiguousColumn clause found names words = words ≡ both_words
IsReasonTold refused.RepeatedUsing clause found names words = words ≡ codes "; the column is named before" ++ 10 ∷ []
IsReasonTold refused.TypeMismatch clause found names words = words ≡ 10 ∷ []
IsReasonTold refused.Memory clause found names words = words ≡ 10 ∷ []
