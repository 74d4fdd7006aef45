-- The columns of undeclared types that a clause compares as only columns of declared types can be
-- compared: by an order, or with a number.
use Rattle.std.specs.Prelude.{ℕ, Bool, true, false, ◌||◌, List, [], ◌∷◌, map, Option, None, Some, Result, Ok, Err, if◌then◌else◌, slice_get, unwrap_or}
use Rattle.std.specs.List.{position_from}
use Rattle.std.specs.Option.{option_or}
use Rattle.std.specs.Str.{str_eq_ignore_ascii_case}
use Rattle.rj_columns.specs.Tables.{TableValue}
use Rattle.rj_condition.specs.Fits.{family_of}
use Rattle.rj_condition.specs.Names.{place}
use Rattle.rj_condition.specs.Resolved.{Resolved, resolved}
use Rattle.rj_condition.specs.declared.tree.Clause.{Clause}
use Rattle.rj_condition.specs.declared.tree.Clause.TheVariants as clause
use Rattle.rj_condition.specs.declared.tree.Comparison.{Comparison}
use Rattle.rj_condition.specs.declared.tree.Comparison.TheVariants as operator
use Rattle.rj_condition.specs.declared.tree.Name.{Name}
use Rattle.rj_condition.specs.declared.bound.BoundOperand.{BoundOperand}
use Rattle.rj_condition.specs.declared.bound.BoundOperand.TheVariants as operand
use Rattle.rj_condition.specs.declared.bound.BoundCondition.{BoundCondition}
use Rattle.rj_condition.specs.declared.bound.BoundCondition.TheFolds.{fold-BoundCondition}
use Rattle.rj_condition.specs.declared.bound.BoundCondition.TheOpen.{BoundCondition-F}
use Rattle.rj_condition.specs.declared.typing.TypeFamily.{TypeFamily}
use Rattle.rj_condition.specs.declared.typing.TypeFamily.TheVariants as family
use Rattle.rj_condition.specs.declared.undeclared.Columns.{Columns}
use Rattle.rj_condition.specs.declared.undeclared.TableColumn.{TableColumn}
use Rattle.rj_condition.specs.declared.undeclared.TableColumn.TheVariants as column

-- a table, and for each of its columns whether its type isn't declared
pub record Marked : Type 0 where
  pub table : TableValue
  pub undeclared : List Bool

abbrev pub marked : Columns → Marked
marked c = record { table = c.table.now; undeclared = c.undeclared.now }

-- the first answer that is one
abbrev pub first_some : {A B : Type 0} → (A → Option B) → List A → Option B
first_some f [] = None
first_some f (x ∷ xs) = option_or (f x) (first_some f xs)

-- whether the type of a column isn't declared
abbrev pub is_marked : Marked → ℕ → Bool
is_marked columns i = unwrap_or (slice_get columns.undeclared i) false

-- the column of an undeclared type that an operand is
abbrev pub undeclared_column : Marked → Marked → BoundOperand → Option TableColumn
undeclared_column left right (operand.Left i) = if is_marked left i then Some (column.Left i) else None
undeclared_column left right (operand.Right j) = if is_marked right j then Some (column.Right j) else None
undeclared_column left right (operand.Literal x) = None

-- the comparison is by an order
abbrev pub is_order : Comparison → Bool
is_order operator.Equal = false
is_order operator.NotEqual = false
is_order operator.Less = true
is_order operator.Greater = true
is_order operator.LessOrEqual = true
is_order operator.GreaterOrEqual = true

abbrev pub is_number : Option TypeFamily → Bool
is_number (Some family.Number) = true
is_number (Some family.Text) = false
is_number None = false

-- what is compared so with the second operand has to be of a declared type
abbrev pub needs_type : Marked → Marked → Comparison → BoundOperand → Bool
needs_type left right op y = is_order op || is_number (family_of left.table.types right.table.types y)

-- the first operand of a comparison, if it needs a declared type and has none
abbrev pub needing : Marked → Marked → Comparison → BoundOperand → BoundOperand → Option TableColumn
needing left right op x y = if needs_type left right op y then undeclared_column left right x else None

-- the same of both, the first one first
abbrev pub needing_of : Marked → Marked → Comparison → BoundOperand → BoundOperand → Option TableColumn
needing_of left right op x y = option_or (needing left right op x y) (needing left right op y x)

-- of `x BETWEEN a AND b`
abbrev pub needing_between : Marked → Marked → BoundOperand → BoundOperand → BoundOperand → Option TableColumn
needing_between left right x a b = option_or (needing_of left right operator.GreaterOrEqual x a) (needing_of left right operator.LessOrEqual x b)

-- the first one in the order of the text; BETWEEN compares by an order, and IN by equality (SQL-92, 8.2 to 8.4)
abbrev pub needing_at : Marked → Marked → BoundCondition-F (Option TableColumn) → Option TableColumn
needing_at left right (BoundCondition-F.Compare a op b) = needing_of left right op a b
needing_at left right (BoundCondition-F.Between x a b negated) = needing_between left right x a b
needing_at left right (BoundCondition-F.In x members negated) = first_some (needing_of left right operator.Equal x) members
needing_at left right (BoundCondition-F.IsNull x negated) = None
needing_at left right (BoundCondition-F.Is found truth negated) = found
needing_at left right (BoundCondition-F.Not found) = found
needing_at left right (BoundCondition-F.All all) = first_some (λ found. found) all
needing_at left right (BoundCondition-F.Any all) = first_some (λ found. found) all

abbrev pub needing_in : Marked → Marked → BoundCondition → Option TableColumn
needing_in left right c = fold-BoundCondition (Option TableColumn) (needing_at left right) c

abbrev pub needing_among : Marked → Marked → List BoundCondition → Option TableColumn
needing_among left right cs = first_some (λ found. found) (map (needing_in left right) cs)

-- of a condition whose names can all be taken
abbrev pub needing_on : Marked → Marked → Resolved → Option TableColumn
needing_on left right (Ok c) = needing_in left right c
needing_on left right (Err e) = None

-- of two columns that have to be equal
abbrev pub needing_pair : Marked → Marked → Option ℕ → Option ℕ → Option TableColumn
needing_pair left right None j = None
needing_pair left right (Some i) None = None
needing_pair left right (Some i) (Some j) = needing_of left right operator.Equal (operand.Left i) (operand.Right j)

-- of the columns of a name of USING
abbrev pub needing_named : Marked → Marked → Name → Option TableColumn
needing_named left right n = needing_pair left right (place left.table.names n) (place right.table.names n)

-- of the columns of NATURAL with this name
abbrev pub needing_called : Marked → Marked → List ℕ → Option TableColumn
needing_called left right n = needing_pair left right
    (position_from (str_eq_ignore_ascii_case n) 0 left.table.names) (position_from (str_eq_ignore_ascii_case n) 0 right.table.names)

-- the first column of a clause that needs a declared type and has none
abbrev pub undeclared_in : Marked → Marked → Clause → Option TableColumn
undeclared_in left right clause.Cross = None
undeclared_in left right (clause.Natural kind) = first_some (needing_called left right) left.table.names
undeclared_in left right (clause.Using kind names) = first_some (needing_named left right) names
undeclared_in left right (clause.On kind c) = needing_on left right (resolved left.table.names right.table.names c)
