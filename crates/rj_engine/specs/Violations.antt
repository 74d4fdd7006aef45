-- How a joined table differs from what is expected: how many rows it has, or the first row that is
-- in more than one match, or the first left row that is in none.
use Rattle.std.specs.Prelude.{ℕ, ◌≡◌, ◌<◌, ◌≤◌, ◌==◌, Bool, true, List, length, map, slice_get, Option, Some}
use Rattle.std.specs.List.{count_by}
use Rattle.rj_settings.specs.declared.expectation.Expectation.{Expectation}
use Rattle.rj_settings.specs.declared.expectation.Matching.{Matching}
use Rattle.rj_settings.specs.declared.expectation.Matching.TheVariants as matching
use Rattle.rj_engine.specs.declared.violations.Violation.{Violation}
use Rattle.rj_engine.specs.declared.violations.Violation.TheVariants as violation
use Rattle.rj_engine.specs.Expected.{AreDistinct, AreMatched, HasAtMost}
use Rattle.rj_engine.specs.Join.{JoinedValue, absent, rows_in}

-- how often a number is in a list
abbrev pub times : ℕ → List ℕ → ℕ
times k numbers = count_by (λ x. x == k) numbers

-- the least number that is in it more than once, and how often it does
pub record IsFirstRepeated (numbers : List ℕ) (number often : ℕ) : Type 0 where
  pub counted : often ≡ times number numbers
  pub repeated : 1 < often
  pub first : (k : ℕ) → k < number → times k numbers ≤ 1

-- the first left row in more than one match, or the first right one, with how many these are; for
-- one-to-one left rows come first
abbrev pub IsPairViolation : Option Matching → List (ℕ × ℕ) → Violation → Type 0
IsPairViolation (Some matching.ManyToOne) pairs (violation.LeftRow i n) = IsFirstRepeated (map (λ p. p.0) pairs) i n
IsPairViolation (Some matching.OneToMany) pairs (violation.RightRow j n) = IsFirstRepeated (map (λ p. p.1) pairs) j n
IsPairViolation (Some matching.OneToOne) pairs (violation.LeftRow i n) = IsFirstRepeated (map (λ p. p.0) pairs) i n
IsPairViolation (Some matching.OneToOne) pairs (violation.RightRow j n) = AreDistinct (map (λ p. p.0) pairs) × IsFirstRepeated (map (λ p. p.1) pairs) j n
IsPairViolation m pairs v = ⊥

-- the first left row in no match, if each has to be in one
abbrev pub IsLoneViolation : Bool → ℕ → List (ℕ × ℕ) → Violation → Type 0
IsLoneViolation true lefts pairs (violation.LoneLeft i) = slice_get (absent (map (λ p. p.0) pairs) lefts) 0 ≡ Some i
IsLoneViolation matched lefts pairs v = ⊥

-- the joined table has this many members, and that is too many; or it hasn't too many, and this row
-- is in too many matches; or no row is, and this left row is in none
abbrev pub IsViolation : Expectation → ℕ → JoinedValue → Violation → Type 0
IsViolation e lefts joined (violation.Rows n) = (HasAtMost e.most_rows joined → ⊥) × (n ≡ length (rows_in joined))
IsViolation e lefts joined (violation.LoneLeft i) =
    HasAtMost e.most_rows joined × AreMatched e.matching joined.pairs × IsLoneViolation e.matched lefts joined.pairs (violation.LoneLeft i)
IsViolation e lefts joined v = HasAtMost e.most_rows joined × IsPairViolation e.matching joined.pairs v
