-- Columns of a run's tables whose types nobody declared, and what a clause that needs them is bound as.
use Rattle.std.specs.Prelude.{◌&&◌, ◌||◌, not, ℕ, Bool, List, [], map, Option, None, Some, option_map, if◌then◌else◌, slice_get, unwrap_or, Result, Ok, Err}
use Rattle.std.specs.List.{list_any}
use Rattle.rj_columns.specs.Tables.{TableValue}
use Rattle.rj_condition.specs.Bound.{bound}
use Rattle.rj_condition.specs.Undeclared.{Marked, undeclared_in}
use Rattle.rj_condition.specs.declared.tree.Clause.{Clause}
use Rattle.rj_condition.specs.declared.bound.BoundJoin.{BoundJoin}
use Rattle.rj_condition.specs.declared.refused.BindRefused.{BindRefused}
use Rattle.rj_condition.specs.declared.refused.BindRefused.TheVariants as bind
use Rattle.rj_condition.specs.declared.undeclared.TableColumn.{TableColumn}
use Rattle.rj_condition.specs.declared.undeclared.TableColumn.TheVariants as column
use Rattle.rj_settings.specs.Columns as columns
use Rattle.rj_settings.specs.declared.types.entry.TypeEntry.{TypeEntry}
use Rattle.rj_line.specs.declared.fault.Fault.{Fault}
use Rattle.rj_line.specs.declared.fault.Fault.TheVariants as fault
use Rattle.rj_line.specs.declared.fault.Side.{Side}
use Rattle.rj_line.specs.declared.fault.Side.TheVariants as side
use Rattle.rj_line.specs.declared.request.Request.{Request}
use Rattle.rj_command.specs.Refused.{bind_fault}
use Rattle.rj_command.specs.Sides.{types_of}

-- whether the types of those columns of a side that no entry names aren't declared
abbrev pub is_open : Request → Side → Bool
is_open q side.Left = q.left_undeclared
is_open q side.Right = q.right_undeclared

-- whether the type of a column with this name isn't declared
abbrev pub is_undeclared : Bool → List TypeEntry → List ℕ → Bool
is_undeclared open_list entries called = open_list && not (list_any (λ e. columns.names called e.label) entries)

-- a side's table, and for each of its columns whether its type isn't declared
abbrev pub marked_table : Request → Side → TableValue → Marked
marked_table q s t = record { table = t; undeclared = map (is_undeclared (is_open q s) (types_of q s)) t.names }

-- the first column of a clause that needs a declared type and has none
abbrev pub undeclared_column : Request → TableValue → TableValue → Clause → Option TableColumn
undeclared_column q l r c =
    if q.left_undeclared || q.right_undeclared then undeclared_in (marked_table q side.Left l) (marked_table q side.Right r) c else None

-- the error of such a column, which names it
abbrev pub column_fault : TableValue → TableValue → TableColumn → Fault
column_fault l r (column.Left i) = fault.UndeclaredType side.Left (unwrap_or (slice_get l.names i) [])
column_fault l r (column.Right j) = fault.UndeclaredType side.Right (unwrap_or (slice_get r.names j) [])

abbrev pub undeclared_fault : Request → TableValue → TableValue → Clause → Option Fault
undeclared_fault q l r c = option_map (column_fault l r) (undeclared_column q l r c)

-- the error of a clause that doesn't bind: that of such a column takes the place of a mismatch of types
abbrev pub unbound_fault : BindRefused → Option Fault → Fault
unbound_fault bind.TypeMismatch (Some f) = f
unbound_fault e u = bind_fault e

-- what a clause is bound as, unless it needs a declared type that isn't there
abbrev pub bound_or : Result BoundJoin BindRefused → Option Fault → Result BoundJoin Fault
bound_or (Ok join) None = Ok join
bound_or (Ok join) (Some f) = Err f
bound_or (Err e) u = Err (unbound_fault e u)

-- what a clause is bound as over the tables of a request, or its error
abbrev pub bound_for : Request → TableValue → TableValue → Clause → Result BoundJoin Fault
bound_for q l r c = bound_or (bound c l r) (undeclared_fault q l r c)
