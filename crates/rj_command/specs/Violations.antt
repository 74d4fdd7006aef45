-- How the joined table of two files differs from what is expected.
use Rattle.std.specs.Prelude.{ℕ, List, MatchOption, Option, length}
use Rattle.rj_columns.specs.Tables.{TableValue}
use Rattle.rj_condition.specs.declared.bound.BoundJoin.{BoundJoin}
use Rattle.rj_engine.specs.Results.{joined_of}
use Rattle.rj_engine.specs.Violations.{IsViolation}
use Rattle.rj_engine.specs.declared.violations.Violation.{Violation}
use Rattle.rj_command.specs.Expected.{IsExpected}
use Rattle.rj_command.specs.Operands.{AreOperands}
use Rattle.rj_line.specs.declared.request.Request.{Request}

-- the bytes denote two tables, whose joined table is as expected if there is no violation, and else
-- has this violation
pub record HasViolation (left right : List ℕ) (q : Request) (found : Option Violation) : Type 0 where
  pub l : TableValue
  pub r : TableValue
  pub join : BoundJoin
  pub operands : AreOperands left right q l r join
  pub told : MatchOption found (IsExpected q join l r) (IsViolation q.expectation (length l.rows) (joined_of join l r))
