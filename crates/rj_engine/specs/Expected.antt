-- What may be expected of a joined table: how its rows are matched, and how many there are.
use Rattle.std.specs.Prelude.{◌≡◌, ◌≤◌, ◌≢◌, ℕ, Bool, true, false, List, [], length, map, Option, None, Some}
use Rattle.std.specs.List.{AllPairs}
use Rattle.rj_settings.specs.declared.expectation.Expectation.{Expectation}
use Rattle.rj_settings.specs.declared.expectation.Matching.{Matching}
use Rattle.rj_settings.specs.declared.expectation.Matching.TheVariants as matching
use Rattle.rj_engine.specs.Join.{JoinedValue, absent, rows_in}

-- no number occurs twice
abbrev pub AreDistinct : List ℕ → Type 0
AreDistinct numbers = AllPairs (λ a b. a ≢ b) numbers

-- each left row is in at most one of the matches, or each right row, or both
abbrev pub AreMatched : Option Matching → List (ℕ × ℕ) → Type 0
AreMatched None pairs = Unit {0}
AreMatched (Some matching.ManyToOne) pairs = AreDistinct (map (λ p. p.0) pairs)
AreMatched (Some matching.OneToMany) pairs = AreDistinct (map (λ p. p.1) pairs)
AreMatched (Some matching.OneToOne) pairs = AreDistinct (map (λ p. p.0) pairs) × AreDistinct (map (λ p. p.1) pairs)

-- no left row below a count is unmatched, if that is asked for
abbrev pub HasNoLone : Bool → ℕ → List (ℕ × ℕ) → Type 0
HasNoLone false lefts pairs = Unit {0}
HasNoLone true lefts pairs = absent (map (λ p. p.0) pairs) lefts ≡ []

-- the joined table has no more members than this
abbrev pub HasAtMost : Option ℕ → JoinedValue → Type 0
HasAtMost None joined = Unit {0}
HasAtMost (Some most) joined = length (rows_in joined) ≤ most

-- the joined table of so many left rows is as expected
pub record IsAsExpected (e : Expectation) (lefts : ℕ) (joined : JoinedValue) : Type 0 where
  pub rows : HasAtMost e.most_rows joined
  pub matching : AreMatched e.matching joined.pairs
  pub matched : HasNoLone e.matched lefts joined.pairs
