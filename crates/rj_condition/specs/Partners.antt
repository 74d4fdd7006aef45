-- The corresponding columns of USING and NATURAL (SQL-92, 7.5): for each left column the right one
-- with which it is joined, if any.
use Rattle.std.specs.Prelude.{ℕ, List, [], ◌∷◌, ◌++◌, length, replicate, Option, None, Some, Result, Ok, Err, slice_get, slice_index_or, slice_set, is_some, if◌then◌else◌}
use Rattle.std.specs.List.{position_from}
use Rattle.std.specs.Str.{str_eq_ignore_ascii_case}
use Rattle.rj_columns.specs.Tables.{TableValue}
use Rattle.rj_condition.specs.Names.{place}
use Rattle.rj_condition.specs.Fits.{are_one_type}
use Rattle.rj_condition.specs.Resolved.{and_then}
use Rattle.rj_condition.specs.declared.tree.Name.{Name}
use Rattle.rj_condition.specs.declared.refused.BindRefused.{BindRefused}
use Rattle.rj_condition.specs.declared.refused.BindRefused.TheVariants as refused

-- the columns of one name of USING: missing in a table, its left column named before, of two types
abbrev pub pair_of : TableValue → TableValue → List (Option ℕ) → Option ℕ → Option ℕ → Result (ℕ × ℕ) BindRefused
pair_of l r partners None b = Err refused.UnknownColumn
pair_of l r partners (Some i) None = Err refused.UnknownColumn
pair_of l r partners (Some i) (Some j) =
    if is_some (slice_index_or partners i None) then Err refused.RepeatedUsing
    else if are_one_type (slice_get l.types i) (slice_get r.types j) then Ok (i, j)
    else Err refused.TypeMismatch

-- name by name, after those found before
abbrev pub using_from : TableValue → TableValue → List (Option ℕ) → List Name → Result (List (Option ℕ)) BindRefused
using_from l r partners [] = Ok partners
using_from l r partners (n ∷ names) =
    and_then (pair_of l r partners (place l.names n) (place r.names n)) (λ p. using_from l r (slice_set partners p.0 (Some p.1)) names)

abbrev pub no_partners : TableValue → List (Option ℕ)
no_partners l = replicate (length l.types) None

abbrev pub using : TableValue → TableValue → List Name → Result (List (Option ℕ)) BindRefused
using l r names = using_from l r (no_partners l) names

-- a common column is of one type
abbrev pub natural_partner : TableValue → TableValue → ℕ → Option ℕ → Result (Option ℕ) BindRefused
natural_partner l r i None = Ok None
natural_partner l r i (Some j) = if are_one_type (slice_get l.types i) (slice_get r.types j) then Ok (Some j) else Err refused.TypeMismatch

-- the right column of the same name, ignoring ASCII case
abbrev pub natural_from : TableValue → TableValue → List (Option ℕ) → List (List ℕ) → Result (List (Option ℕ)) BindRefused
natural_from l r partners [] = Ok partners
natural_from l r partners (n ∷ names) =
    and_then (natural_partner l r (length partners) (position_from (str_eq_ignore_ascii_case n) 0 r.names)) (λ p. natural_from l r (partners ++ p ∷ []) names)

abbrev pub natural : TableValue → TableValue → Result (List (Option ℕ)) BindRefused
natural l r = natural_from l r [] l.names
