-- Joined tables that aren't as expected.
use Rattle.std.specs.Prelude.{◌≡◌, ◌&&◌, ℕ, Bool, true, false, not, nat_lt, if◌then◌else◌, is_none, length, Option, None, Some, Result, Ok, Err}
use Rattle.std.specs.declared.alloc.AllocError.{AllocError}
use Rattle.rj_columns.specs.Tables.{TableValue}
use Rattle.rj_condition.specs.declared.bound.BoundJoin.{BoundJoin}
use Rattle.rj_engine.specs.Expected.{IsAsExpected}
use Rattle.rj_engine.specs.Results.{joined_of}
use Rattle.rj_line.specs.declared.fault.Fault.{Fault}
use Rattle.rj_line.specs.declared.fault.Fault.TheVariants as fault
use Rattle.rj_line.specs.declared.request.Request.{Request}
use Rattle.rj_settings.specs.declared.expectation.Expectation.{Expectation}

-- the joined table of two tables is as the request expects
abbrev pub IsExpected : Request → BoundJoin → TableValue → TableValue → Type 0
IsExpected q join l r = IsAsExpected q.expectation (length l.rows) (joined_of join l r)

-- it isn't, and this error says so
abbrev pub IsUnexpected : Request → BoundJoin → TableValue → TableValue → Fault → Type 0
IsUnexpected q join l r f = (f ≡ fault.NotAsExpected) × (IsExpected q join l r → ⊥)

-- the error of a joined table, given whether it was found to be as expected, or that this couldn't
-- be found out
abbrev pub refusal_of : Result Bool AllocError → Result (Unit {0}) Fault
refusal_of (Ok true) = Ok tt
refusal_of (Ok false) = Err fault.NotAsExpected
refusal_of (Err e) = Err fault.Memory

-- nothing is expected of a joined table but a number of rows, if anything is
abbrev pub expects_rows_alone : Expectation → Bool
expects_rows_alone e = is_none e.matching && not e.matched

-- nothing at all is
abbrev pub expects_nothing : Expectation → Bool
expects_nothing e = expects_rows_alone e && is_none e.most_rows

-- a number of rows, if it is more than the most that are expected
abbrev pub excess_over : Option ℕ → ℕ → Option ℕ
excess_over None rows = None
excess_over (Some most) rows = if nat_lt most rows then Some rows else None
