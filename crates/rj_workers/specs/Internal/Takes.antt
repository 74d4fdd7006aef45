-- What takers know, and what they return. Internal: no public contract uses it.
use Rattle.std.specs.Prelude.{◌≡◌, ℕ, ◌+◌, Bool, true, false, List, [], ◌⊎◌, Option, Some, IfSome, slice_get, length, map, All}
use Rattle.rj_exchange.specs.Ledgers.{LedgerValue, IsComplete}
use Rattle.rj_exchange.specs.declared.boxes.Exchange.{Exchange}
use Rattle.rj_exchange.specs.declared.halt.Halt.{Halt}
use Rattle.rj_exchange.specs.declared.halt.HaltSeat.{HaltSeat}
use Rattle.rj_exchange.specs.declared.tickets.Seat.{Seat}
use Rattle.rj_exchange.specs.declared.tickets.Tickets.{Tickets}
use Rattle.rj_exchange.specs.declared.boxes.Inbox.{Inbox}
use Rattle.rj_exchange.specs.Boxes.{IsInboxOf, taken_by_lane}
use Rattle.rj_exchange.specs.Halt.{IsHaltSeatOf}
use Rattle.rj_exchange.specs.Tickets.{IsSeatOf}
use Rattle.rj_workers.specs.declared.take.OwnedPartition.{OwnedPartition}
use Rattle.rj_workers.specs.declared.take.Building.{Building}
use Rattle.rj_workers.specs.declared.take.Building.TheVariants.{Waiting, Left, Done}
use Rattle.rj_workers.specs.declared.take.Taker.{Taker}
use Rattle.rj_workers.specs.declared.settings.WorkerSettings.{WorkerSettings}
use Rattle.rj_workers.specs.declared.shared.Shared.{Shared}
use Rattle.rj_workers.specs.Arrivals.{IsArrived, IsTaking, rows_by_sender}
use Rattle.rj_workers.specs.Internal.Scans.{KnowsHalt}

-- what a partition of a number and of rows by sender is built into
abbrev pub Builds : Type 0 → Type 1
Builds T = ℕ → List (List ℕ) → T → Type 0

-- if partition p was built, its ledger is complete, and it was built of its rows
abbrev pub IsBuilding : {T : Type 0} → Builds T → ℕ → LedgerValue → Building T → Type 0
IsBuilding builds p v Waiting = Unit {0}
IsBuilding builds p v Left = Unit {0}
IsBuilding builds p v (Done built) = IsComplete v × builds p (rows_by_sender v) built

-- it is built, or left to the starting thread
abbrev pub is_settled : {T : Type 0} → Building T → Bool
is_settled Waiting = false
is_settled Left = true
is_settled (Done built) = true

-- it waits if its ledger is not complete, and is left if it can't be joined on its rows
abbrev pub IsTried : {T : Type 0} → (List (List ℕ) → Type 0) → LedgerValue → Building T → Type 0
IsTried joinable v Waiting = ¬ IsComplete v
IsTried joinable v Left = ¬ joinable (rows_by_sender v)
IsTried joinable v (Done built) = Unit {0}

-- a partition that a taker owns
pub record IsOwnedOf {T : Type 0} (builds : Builds T) (e : Exchange) (stripes block : ℕ) (h : OwnedPartition T) : Type 0 where
  pub taking : IsTaking e (stripes + stripes) block h.inbox h.ledger
  pub built : IsBuilding builds h.inbox.partition h.ledger h.building

abbrev pub IsOwned : {J G T : Type 0} → Builds T → Shared J G → OwnedPartition T → Type 0
IsOwned builds shared h = IsOwnedOf builds shared.exchange.now shared.settings.workers shared.settings.block h

-- a taker's tokens are of these words and tickets
pub record IsTakerOf {T : Type 0} (h o : Halt) (t : Tickets) (me : Taker T) : Type 0 where
  pub seat : IsHaltSeatOf h me.seat
  pub done_seat : IsHaltSeatOf o me.done_seat
  pub draws : IsSeatOf t me.draws

abbrev pub IsTaker : {J G T : Type 0} → Shared J G → Taker T → Type 0
IsTaker shared me = IsTakerOf shared.halt.now shared.done.now shared.tickets.now me

-- a taker that owns no partition yet
abbrev pub OwnsNothing : {T : Type 0} → Taker T → Type 0
OwnsNothing me = me.all.items ≡ []

-- a taker as it starts
abbrev pub IsNewTaker : {T : Type 0} → Halt → Halt → Tickets → Taker T → Type 0
IsNewTaker h o t me = IsTakerOf h o t me × OwnsNothing me

-- the tokens of takers, in order
abbrev pub taker_seats : {T : Type 0} → List (Taker T) → List HaltSeat
taker_seats {T} rs = map (λ (t : Taker T). t.seat) rs

abbrev pub taker_done_seats : {T : Type 0} → List (Taker T) → List HaltSeat
taker_done_seats {T} rs = map (λ (t : Taker T). t.done_seat) rs

abbrev pub taker_draws : {T : Type 0} → List (Taker T) → List Seat
taker_draws {T} rs = map (λ (t : Taker T). t.draws) rs

-- what a taker returns: partitions with all that it took there, unless it has raised or seen the
-- halt word
pub record IsTakeOf {T : Type 0} (builds : Builds T) (e : Exchange) (h : Halt) (stripes block : ℕ) (me : Taker T) : Type 0 where
  pub seat : IsHaltSeatOf h me.seat
  pub held : KnowsHalt me.seat ⊎ All (IsOwnedOf builds e stripes block) me.all.items

abbrev pub IsTake : {J G T : Type 0} → Builds T → Shared J G → Taker T → Type 0
IsTake builds shared me = IsTakeOf builds shared.exchange.now shared.halt.now shared.settings.workers shared.settings.block me

-- inboxes as they were opened
abbrev pub AreFreshInboxes : Exchange → List Inbox → Type 0
AreFreshInboxes e is = (p : ℕ) (i : Inbox) → slice_get is p ≡ Some i → IsInboxOf e i × (i.partition ≡ p) × IsArrived (taken_by_lane i) []

-- inboxes as they were opened, and ledgers for the senders and the block of these settings
pub record AreOpenedOf (e : Exchange) (settings : WorkerSettings) (inboxes : List Inbox) (senders block : ℕ) : Type 0 where
  pub fresh : AreFreshInboxes e inboxes
  pub both : senders ≡ settings.workers + settings.workers
  pub rows : block ≡ settings.block

abbrev pub AreOpened : {J G : Type 0} → Shared J G → List Inbox → ℕ → ℕ → Type 0
AreOpened f inboxes senders block = AreOpenedOf f.exchange.now f.settings inboxes senders block

-- the place of partition p is empty, or has what a taker owned there
abbrev pub IsSlot : {T : Type 0} → Builds T → Exchange → ℕ → ℕ → ℕ → Option (OwnedPartition T) → Type 0
IsSlot builds e stripes block p o = IfSome o (λ h. (h.inbox.partition ≡ p) × IsOwnedOf builds e stripes block h)

abbrev pub AreTakes : {T : Type 0} → Builds T → Exchange → Halt → ℕ → ℕ → ℕ → List (Taker T) → Type 0
AreTakes builds e h stripes block n ts = (length ts ≡ n) × All (IsTakeOf builds e h stripes block) ts
