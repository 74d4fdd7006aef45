-- The last columns that are shown, and the right rows of members.
use Rattle.std.specs.Prelude.{◌≡◌, ℕ, ◌-◌, ◌<◌, ◌≤◌, true, false, List, All, drop, length, slice_index_or}
use Rattle.rj_engine.specs.declared.joined.JoinedRow.{JoinedRow}
use Rattle.rj_engine.specs.declared.joined.JoinedRow.TheVariants.{Both, LeftOnly, RightOnly}
use Rattle.rj_engine.specs.declared.origin.Origin.{Origin}
use Rattle.rj_engine.specs.Chosen.{is_of_left}

-- this many columns are before the last ones that come from the right table alone
pub record IsFront (origins : List Origin) (front : ℕ) : Type 0 where
  pub few : front ≤ length origins
  pub right : All (λ o. is_of_left o ≡ false) (drop front origins)
  pub left : (o : Origin) → 0 < front → is_of_left (slice_index_or origins (front - 1) o) ≡ true

-- the right row of a member, or another number if it has none
abbrev pub right_row : ℕ → JoinedRow → ℕ
right_row none (Both i j) = j
right_row none (LeftOnly i) = none
right_row none (RightOnly j) = j
