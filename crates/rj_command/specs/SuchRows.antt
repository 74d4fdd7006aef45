-- Rows that are asked for of a join whose type keeps none (SQL-92, 7.5).
use Rattle.std.specs.Prelude.{◌&&◌, not, Bool, Option, None, Some, if◌then◌else◌, Result, Ok, Err}
use Rattle.rj_columns.specs.Tables.{TableValue}
use Rattle.rj_condition.specs.declared.bound.BoundJoin.{BoundJoin}
use Rattle.rj_condition.specs.declared.tree.Clause.{Clause}
use Rattle.rj_condition.specs.declared.tree.JoinKind.{JoinKind}
use Rattle.rj_condition.specs.Joins.{kind_of_join}
use Rattle.rj_engine.specs.Join.{adds_left, adds_right}
use Rattle.rj_line.specs.declared.fault.Fault.{Fault}
use Rattle.rj_line.specs.declared.fault.Fault.TheVariants as fault
use Rattle.rj_line.specs.declared.fault.Side.{Side}
use Rattle.rj_line.specs.declared.fault.Side.TheVariants as side
use Rattle.rj_line.specs.declared.request.Request.{Request}
use Rattle.rj_settings.specs.declared.choice.RowKinds.{RowKinds}
use Rattle.rj_command.specs.Undeclared.{bound_for}

-- whether rows of all kinds are asked for, which means those that there are
abbrev pub are_all : RowKinds → Bool
are_all kinds = kinds.pairs && kinds.lone_left && kinds.lone_right

-- the table whose unmatched rows are asked for by themselves, though a join of this type keeps none
abbrev pub unkept_side : RowKinds → JoinKind → Option Side
unkept_side kinds kind =
    if are_all kinds then None
    else (if kinds.lone_left && not (adds_left kind) then Some side.Left
    else (if kinds.lone_right && not (adds_right kind) then Some side.Right else None))

-- a join, unless there is such a table
abbrev pub unless_unkept : BoundJoin → Option Side → Result BoundJoin Fault
unless_unkept join None = Ok join
unless_unkept join (Some s) = Err (fault.NoSuchRows s)

-- the short form refuses such a join
abbrev pub with_rows : Request → Result BoundJoin Fault → Result BoundJoin Fault
with_rows q (Ok join) = unless_unkept join (if q.short then unkept_side q.choice.rows (kind_of_join join) else None)
with_rows q (Err f) = Err f

-- what a clause is bound as over the tables of a request, if it keeps the rows that are asked for, or
-- its error
abbrev pub asked_for : Request → TableValue → TableValue → Clause → Result BoundJoin Fault
asked_for q l r c = with_rows q (bound_for q l r c)
