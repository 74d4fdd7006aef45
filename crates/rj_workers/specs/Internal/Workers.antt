-- What the workers of a run start with, and what they return. Internal: no public contract uses it.
use Rattle.std.specs.Prelude.{◌≡◌, ℕ, ◌+◌, List, ◌∷◌, ◌++◌, length, All}
use Rattle.rj_exchange.specs.declared.boxes.Exchange.{Exchange}
use Rattle.rj_exchange.specs.declared.boxes.Outbox.{Outbox}
use Rattle.rj_exchange.specs.declared.halt.Halt.{Halt}
use Rattle.rj_exchange.specs.declared.halt.HaltSeat.{HaltSeat}
use Rattle.rj_exchange.specs.declared.stripes.Stripes.{Stripes}
use Rattle.rj_exchange.specs.declared.tickets.Tickets.{Tickets}
use Rattle.rj_exchange.specs.Halt.{IsHaltSeatOf, halt_seats_of}
use Rattle.rj_exchange.specs.Stripes.{stripes_of, stripe_seats_of}
use Rattle.rj_exchange.specs.Tickets.{IsSeatOf, limit_of}
use Rattle.rj_workers.specs.declared.settings.WorkerSettings.{WorkerSettings}
use Rattle.rj_workers.specs.declared.workers.NewWorkers.{NewWorkers}
use Rattle.rj_workers.specs.declared.workers.EndedWorkers.{EndedWorkers}
use Rattle.rj_workers.specs.declared.shared.Shared.{Shared}
use Rattle.rj_workers.specs.declared.coordination.Coordination.{Coordination}
use Rattle.rj_workers.specs.declared.coordination.Seats.{Seats}
use Rattle.rj_workers.specs.Posts.{Due}
use Rattle.rj_workers.specs.Internal.Scans.{AreNewScanners, AreScans, IsFreshStripeSeat, scanner_draws, scanner_outboxes, scanner_seats}
use Rattle.rj_workers.specs.Internal.Takes.{Builds, AreTakes, IsNewTaker, OwnsNothing, taker_done_seats, taker_draws, taker_seats}

-- words, stripes and tickets by these settings: a seat at the halt word for each scanner, each
-- taker and the starting thread
pub record IsCoordination (settings : WorkerSettings) (w : Coordination) : Type 0 where
  pub halt_seats : halt_seats_of w.halt ≡ settings.workers + settings.workers + 1
  pub drawn : stripes_of w.stripes ≡ settings.workers
  pub stripe_seats : stripe_seats_of w.stripes ≡ settings.workers
  pub limit : limit_of w.tickets ≡ settings.partitions

-- seats at these words, and one at the stripes and the tickets for each of n workers
pub record AreSeats (w : Coordination) (n : ℕ) (s : Seats) : Type 0 where
  pub at_halt : All (IsHaltSeatOf w.halt) s.halt.items
  pub at_done : All (IsHaltSeatOf w.done) s.done.items
  pub at_stripes : All (IsFreshStripeSeat w.stripes) s.stripes.items
  pub at_tickets : All (IsSeatOf w.tickets) s.tickets.items
  pub takers : length s.tickets.items ≡ n

-- a list begins with another
abbrev pub IsPrefix : {A : Type 0} → List A → List A → Type 0
IsPrefix {A} xs all = (left : List A) × (xs ++ left ≡ all)

-- workers that hold these outboxes and seats, in the order in which they were given; the starting thread has the first seat
-- at each word, and some seats may be left
pub record AreWorkersWith {T : Type 0} (os : List Outbox) (s : Seats) (x : NewWorkers T) (own : HaltSeat) : Type 0 where
  pub outboxes : scanner_outboxes x.scanners.items ≡ os
  pub at_halt : IsPrefix (own ∷ scanner_seats x.scanners.items ++ taker_seats x.takers.items) s.halt.items
  pub at_done : IsPrefix (x.over ∷ taker_done_seats x.takers.items) s.done.items
  pub at_stripes : IsPrefix (scanner_draws x.scanners.items) s.stripes.items
  pub at_tickets : taker_draws x.takers.items ≡ s.tickets.items
  pub empty : All OwnsNothing x.takers.items

-- a scanner for each outbox and as many takers, as they start
pub record AreNewWorkersOf {T : Type 0} (e : Exchange) (h o : Halt) (st : Stripes) (t : Tickets) (x : NewWorkers T) : Type 0 where
  pub scanning : AreNewScanners e h st e.outboxes x.scanners.items
  pub taking : All (IsNewTaker h o t) x.takers.items
  pub many : length x.takers.items ≡ e.outboxes
  pub looking : IsHaltSeatOf o x.over

abbrev pub AreNewWorkers : {J G T : Type 0} → Shared J G → NewWorkers T → Type 0
AreNewWorkers f x = AreNewWorkersOf f.exchange.now f.halt.now f.done.now f.stripes.now f.tickets.now x

pub record AreEndedWorkersOf {T : Type 0} (due : Due) (builds : Builds T) (e : Exchange) (h : Halt) (st : Stripes) (settings : WorkerSettings) (b : EndedWorkers T) : Type 0 where
  pub scanned : AreScans due settings.block settings.workers e h st b.scanners.items
  pub taken : AreTakes builds e h settings.workers settings.block e.outboxes b.takers.items

abbrev pub AreEndedWorkers : {J G T : Type 0} → Due → Builds T → Shared J G → EndedWorkers T → Type 0
AreEndedWorkers due builds f b = AreEndedWorkersOf due builds f.exchange.now f.halt.now f.stripes.now f.settings b
