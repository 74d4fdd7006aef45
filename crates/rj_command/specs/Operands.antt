-- The operands of a run: two tables and a join bound to them, or the first error.
use Rattle.std.specs.Prelude.{◌≡◌, ◌≢◌, ◌⊎◌, ◌++◌, Bool, true, List, ℕ, take, Result, Ok, Err, Option, None, Some, option_map}
use Rattle.csv.specs.Reading.{records, strip_bom}
use Rattle.rj_columns.specs.Tables.{TableValue}
use Rattle.rj_condition.specs.Bound.{bound}
use Rattle.rj_condition.specs.declared.tree.Clause.{Clause}
use Rattle.rj_condition.specs.declared.bound.BoundJoin.{BoundJoin}
use Rattle.rj_condition.specs.declared.refused.BindRefused.{BindRefused}
use Rattle.rj_line.specs.declared.fault.Fault.{Fault}
use Rattle.rj_line.specs.declared.fault.Fault.TheVariants as fault
use Rattle.rj_line.specs.declared.fault.Side.{Side}
use Rattle.rj_line.specs.declared.fault.Side.TheVariants as side
use Rattle.rj_line.specs.declared.request.Request.{Request}
use Rattle.rj_csv_io.specs.StrictReading.{config_of}
use Rattle.rj_engine.specs.Naming.{chosen_names}
use Rattle.rj_engine.specs.declared.naming.NamingRefused.{NamingRefused}
use Rattle.rj_command.specs.Refused.{bind_fault, naming_fault, parse_fault}
use Rattle.rj_command.specs.Sides.{IsTable, IsTableFault, delimiter_of, side_records}
use Rattle.rj_command.specs.SuchRows.{asked_for}
use Rattle.rj_settings.specs.Columns.{name_fault}
use Rattle.rj_condition.specs.Clauses.{HasClause, IsFault}
use Rattle.rj_condition.specs.declared.refused.ParseRefused.{ParseRefused}
use Rattle.rj_condition.specs.declared.refused.ParseRefused.TheVariants as parse

-- the error of the type list for both tables: its first name that means a column of neither, or one
-- that an earlier entry names
abbrev pub shared_fault : Request → TableValue → TableValue → Option Fault
shared_fault q l r = option_map fault.SharedTypeName (name_fault q.shared_types.items (l.names ++ r.names))

-- the text has a clause, which binds to the tables as this join
abbrev pub IsJoinOf : List ℕ → TableValue → TableValue → BoundJoin → Type 0
IsJoinOf text l r join = (c : Clause) × HasClause text c × (bound c l r ≡ Ok join)

-- the error of a text that has no clause, or of a clause that doesn't bind to the tables
pub data IsJoinFault (text : List ℕ) (l r : TableValue) : Fault → Type 0 where
  unread : (e : ParseRefused) → e ≢ parse.Memory → IsFault text e → IsJoinFault text l r (parse_fault e)
  unbound : (c : Clause) (e : BindRefused) → HasClause text c → bound c l r ≡ Err e → IsJoinFault text l r (bind_fault e)

-- a request's text has a clause, which is bound to the tables as this join, and its type list for
-- both tables names their columns
abbrev pub IsJoinAsked : Request → TableValue → TableValue → BoundJoin → Type 0
IsJoinAsked q l r join = (c : Clause) × HasClause q.clause.now c × (asked_for q l r c ≡ Ok join) × (shared_fault q l r ≡ None)

-- the error of a request's type list for both tables, or else of its text that has no clause, or of a
-- clause that isn't bound to the tables
pub data IsClauseFault (q : Request) (l r : TableValue) : Fault → Type 0 where
  of_types : (f : Fault) → shared_fault q l r ≡ Some f → IsClauseFault q l r f
  of_text : (e : ParseRefused) → e ≢ parse.Memory → IsFault q.clause.now e → shared_fault q l r ≡ None → IsClauseFault q l r (parse_fault e)
  of_clause : (c : Clause) (f : Fault) → HasClause q.clause.now c → asked_for q l r c ≡ Err f → shared_fault q l r ≡ None → IsClauseFault q l r f

-- the tables that the bytes denote, and the join that the clause asks of them
pub record AreOperands (left right : List ℕ) (q : Request) (l r : TableValue) (join : BoundJoin) : Type 0 where
  pub left_read : IsTable q side.Left left l
  pub right_read : IsTable q side.Right right r
  pub join_bound : IsJoinAsked q l r join

-- the table of a side's header, without rows: that of the first record which `csv` finds in the bytes of its file, or its error
abbrev pub header_table : Request → Side → List ℕ → Result TableValue Fault
header_table q s bytes = side_records q s (take 1 (records (config_of (delimiter_of q s)) (strip_bom bytes)))

-- both headers make tables
pub record AreHeaders (left right : List ℕ) (q : Request) (l r : TableValue) : Type 0 where
  pub left_header : header_table q side.Left left ≡ Ok l
  pub right_header : header_table q side.Right right ≡ Ok r

-- a chosen column is to be renamed and has no free name, or an entry of a list of columns means none
-- or repeats a name, and this error reports the first one
abbrev pub IsNameFault : Request → BoundJoin → TableValue → TableValue → Fault → Type 0
IsNameFault q join l r f = (e : NamingRefused) × (chosen_names q.choice join l r ≡ Err e) × (f ≡ naming_fault e)

-- there is no such column
abbrev pub HasNames : Request → BoundJoin → TableValue → TableValue → Type 0
HasNames q join l r = (names : List (List ℕ)) × (chosen_names q.choice join l r ≡ Ok names)

-- in the short form, the clause has this error over them; or it has none, and the chosen columns have
-- it, if they are to be named
pub record IsHeaderFault (named : Bool) (left right : List ℕ) (q : Request) (f : Fault) : Type 0 where
  pub short : q.short ≡ true
  pub l : TableValue
  pub r : TableValue
  pub headers : AreHeaders left right q l r
  pub told : IsClauseFault q l r f ⊎ ((named ≡ true) × (join : BoundJoin) × IsJoinAsked q l r join × IsNameFault q join l r f)

-- they have none: in the short form, where both headers make tables, the clause is bound to them, and
-- the chosen columns have names, if they are to be named
pub record HasNoHeaderFault (named : Bool) (left right : List ℕ) (q : Request) : Type 0 where
  pub binds : q.short ≡ true → (l r : TableValue) → AreHeaders left right q l r
      → (join : BoundJoin) × IsJoinAsked q l r join × (named ≡ true → HasNames q join l r)

-- the first error: in the short form that of the clause and of the names over the two headers, before rows are read; then one of the left
-- table, of the right one, of the clause
pub data IsFirstFault (named : Bool) (left right : List ℕ) (q : Request) : Fault → Type 0 where
  in_headers : (f : Fault) → IsHeaderFault named left right q f → IsFirstFault named left right q f
  in_left : (f : Fault) → HasNoHeaderFault named left right q → IsTableFault q side.Left left f → IsFirstFault named left right q f
  in_right : (l : TableValue) (f : Fault) → HasNoHeaderFault named left right q → IsTable q side.Left left l → IsTableFault q side.Right right f
      → IsFirstFault named left right q f
  in_clause : (l r : TableValue) (f : Fault) → HasNoHeaderFault named left right q → IsTable q side.Left left l → IsTable q side.Right right r
      → IsClauseFault q l r f → IsFirstFault named left right q f
