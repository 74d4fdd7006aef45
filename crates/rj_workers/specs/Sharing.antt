-- Shares that workers draw.
use Rattle.std.specs.Prelude.{◌≡◌, ℕ, ◌<◌, List, [], ◌∷◌, ◌++◌, length, map, slice_index_or, All, Result, Ok}
use Rattle.std.specs.declared.alloc.AllocError.{AllocError}
use Rattle.std.specs.List.{flat_map, range_with_len}
use Rattle.std.specs.List.Sorted.{IsPermutation}
use Rattle.rj_exchange.specs.declared.halt.Halt.{Halt}
use Rattle.rj_exchange.specs.declared.halt.HaltSeat.{HaltSeat}
use Rattle.rj_exchange.specs.declared.tickets.Seat.{Seat}
use Rattle.rj_exchange.specs.declared.tickets.Tickets.{Tickets}
use Rattle.rj_exchange.specs.Halt.{IsUnraised, IsHaltSeatOf}
use Rattle.rj_exchange.specs.Tickets.{IsSeatOf, drawn_by}
use Rattle.rj_workers.specs.declared.sharing.Drawer.{Drawer}
use Rattle.rj_workers.specs.declared.sharing.DrawerOutput.{DrawerOutput}

-- it is what one of the shares below n makes
abbrev pub IsMade : {T : Type 0} → (ℕ → T → Type 0) → ℕ → T → Type 0
IsMade makes n done = (k : ℕ) × (k < n) × makes k done

abbrev pub AreMade : {T : Type 0} → (ℕ → T → Type 0) → ℕ → List T → Type 0
AreMade makes n all = All (IsMade makes n) all

-- one by one, the shares of these numbers made the list
abbrev pub AreMadeBy : {T : Type 0} → (ℕ → T → Type 0) → List ℕ → List T → Type 0
AreMadeBy makes numbers all = (length numbers ≡ length all)
    × ((i k : ℕ) (d : _) → i < length all → makes (slice_index_or numbers i k) (slice_index_or all i d))

-- each share below n made one of the list, and there are no others
pub record IsMadeOfEach {T : Type 0} (makes : ℕ → T → Type 0) (n : ℕ) (all : List T) : Type 0 where
  pub numbers : List ℕ
  pub each : IsPermutation (range_with_len 0 n) numbers
  pub made : AreMadeBy makes numbers all

-- what a share made comes after the rest
abbrev pub IsMadeBehind : {T : Type 0} → (ℕ → T → Type 0) → ℕ → List T → List T → Type 0
IsMadeBehind makes number old new = (done : _) × makes number done × (new ≡ old ++ done ∷ [])

-- a worker's tokens are of these tickets and this word
pub record IsDrawer (t : Tickets) (h : Halt) (me : Drawer) : Type 0 where
  pub draws : IsSeatOf t me.draws
  pub seat : IsHaltSeatOf h me.seat

-- a worker as it starts
abbrev pub IsNewDrawer : Tickets → Halt → Drawer → Type 0
IsNewDrawer t h me = IsDrawer t h me × (drawn_by me.draws ≡ [])

-- unless it has raised or seen the word, a worker did each share that it drew
pub record IsDrawerOutput {T : Type 0} (makes : ℕ → T → Type 0) (t : Tickets) (h : Halt) (d : DrawerOutput T) : Type 0 where
  pub drawer : IsDrawer t h d.drawer
  pub made : IsUnraised d.drawer.seat → AreMadeBy makes (drawn_by d.drawer.draws) d.made.items

-- workers that didn't run out of memory returned these seats, and these things made, in their order
pub record AreGathered {T : Type 0} (results : List (Result (DrawerOutput T) AllocError)) (draws : List Seat) (seats : List HaltSeat) (made : List T) : Type 0 where
  pub outputs : List (DrawerOutput T)
  pub all_are : results ≡ map Ok outputs
  pub draws_are : draws ≡ map (λ o. o.drawer.draws) outputs
  pub seats_are : seats ≡ map (λ o. o.drawer.seat) outputs
  pub made_are : made ≡ flat_map (λ o. o.made.items) outputs
