-- Which column a name means (SQL-92, 5.4 and 6.4): a regular identifier ignores ASCII case, a delimited one is exact.
use Rattle.std.specs.Prelude.{ℕ, Bool, List, [], ◌∷◌, Option, None, Some, Result, Ok, Err, if◌then◌else◌}
use Rattle.std.specs.List.{position_from}
use Rattle.std.specs.Str.{bytes_eq, str_eq_ignore_ascii_case}
use Rattle.rj_condition.specs.declared.tree.Name.{Name}
use Rattle.rj_condition.specs.declared.tree.Operand.{Operand}
use Rattle.rj_condition.specs.declared.tree.Operand.TheVariants as operand
use Rattle.rj_condition.specs.declared.bound.BoundOperand.{BoundOperand}
use Rattle.rj_condition.specs.declared.bound.BoundOperand.TheVariants as bound
use Rattle.rj_condition.specs.declared.refused.BindRefused.{BindRefused}
use Rattle.rj_condition.specs.declared.refused.BindRefused.TheVariants as refused

-- whether the name means a column with this name
abbrev pub matches : Name → List ℕ → Bool
matches name called = if name.delimited then bytes_eq name.text called else str_eq_ignore_ascii_case name.text called

-- the column of that name
abbrev pub place : List (List ℕ) → Name → Option ℕ
place names name = position_from (matches name) 0 names

-- an unqualified name is in exactly one table
abbrev pub in_one : Option ℕ → Option ℕ → Result BoundOperand BindRefused
in_one (Some i) (Some j) = Err refused.AmbiguousColumn
in_one (Some i) None = Ok (bound.Left i)
in_one None (Some j) = Ok (bound.Right j)
in_one None None = Err refused.UnknownColumn

abbrev pub in_left : Option ℕ → Result BoundOperand BindRefused
in_left (Some i) = Ok (bound.Left i)
in_left None = Err refused.UnknownColumn

abbrev pub in_right : Option ℕ → Result BoundOperand BindRefused
in_right (Some j) = Ok (bound.Right j)
in_right None = Err refused.UnknownColumn

-- the column that is meant, over the names of the left table, L, and of the right one, R: 76 is L and 82 is R
abbrev pub qualified : List (List ℕ) → List (List ℕ) → Option Name → Name → Result BoundOperand BindRefused
qualified left right None name = in_one (place left name) (place right name)
qualified left right (Some table) name =
    if matches table (76 ∷ []) then in_left (place left name)
    else if matches table (82 ∷ []) then in_right (place right name)
    else Err refused.UnknownColumn

abbrev pub resolved_operand : List (List ℕ) → List (List ℕ) → Operand → Result BoundOperand BindRefused
resolved_operand left right (operand.Column column) = qualified left right column.qualifier column.name
resolved_operand left right (operand.Literal x) = Ok (bound.Literal x)
