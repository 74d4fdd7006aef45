-- What scanners know, and what they return. Internal: no public contract uses it.
use Rattle.std.specs.Prelude.{◌≡◌, ℕ, ◌+◌, ◌<◌, List, [], ◌⊎◌, length, map, slice_index_or}
use Rattle.rj_exchange.specs.declared.boxes.Exchange.{Exchange}
use Rattle.rj_exchange.specs.declared.boxes.Outbox.{Outbox}
use Rattle.rj_exchange.specs.declared.stripes.StripeSeat.{StripeSeat}
use Rattle.rj_exchange.specs.declared.halt.Halt.{Halt}
use Rattle.rj_exchange.specs.declared.halt.HaltSeat.{HaltSeat}
use Rattle.rj_exchange.specs.declared.stripes.Stripes.{Stripes}
use Rattle.rj_exchange.specs.Boxes.{sent_by_queue, IsOutboxOf}
use Rattle.rj_exchange.specs.Halt.{HasRaised, HasSeen, IsHaltSeatOf}
use Rattle.rj_exchange.specs.Stripes.{IsStripeSeatOf, Holds, held_by}
use Rattle.rj_workers.specs.declared.scan.ScanStop.{ScanStop}
use Rattle.rj_workers.specs.declared.scan.ScanStop.TheVariants.{Halted, Refused}
use Rattle.rj_workers.specs.declared.scan.Scanner.{Scanner}
use Rattle.rj_workers.specs.declared.shared.Shared.{Shared}
use Rattle.rj_workers.specs.Posts.{Due, Posts, OnlyPlanned, HasPosted, NothingPosted}

abbrev pub KnowsHalt : HaltSeat → Type 0
KnowsHalt s = HasRaised s ⊎ HasSeen s

-- who stops at the halt word has raised it or seen it raised
abbrev pub StopsAt : HaltSeat → ScanStop → Type 0
StopsAt s Halted = KnowsHalt s
StopsAt s Refused = Unit {0}

-- a scanner's tokens are of this exchange, word and stripes
pub record IsScannerOf (e : Exchange) (h : Halt) (st : Stripes) (me : Scanner) : Type 0 where
  pub outbox : IsOutboxOf e me.outbox
  pub seat : IsHaltSeatOf h me.seat
  pub draws : IsStripeSeatOf st me.draws

-- a stripe seat that holds nothing
abbrev pub IsFreshStripeSeat : Stripes → StripeSeat → Type 0
IsFreshStripeSeat st s = IsStripeSeatOf st s × (held_by s ≡ [])

-- scanner n as it starts
pub record IsNewScanner (e : Exchange) (h : Halt) (st : Stripes) (n : ℕ) (me : Scanner) : Type 0 where
  pub scanner : IsScannerOf e h st me
  pub number : me.outbox.number ≡ n
  pub posted : NothingPosted (sent_by_queue me.outbox)
  pub held : held_by me.draws ≡ []

abbrev pub AreNewScanners : Exchange → Halt → Stripes → ℕ → List Scanner → Type 0
AreNewScanners e h st n rs = (length rs ≡ n) × ((s : ℕ) (d : Scanner) → s < n → IsNewScanner e h st s (slice_index_or rs s d))

-- the tokens of scanners, in order
abbrev pub scanner_outboxes : List Scanner → List Outbox
scanner_outboxes rs = map (λ (s : Scanner). s.outbox) rs

abbrev pub scanner_seats : List Scanner → List HaltSeat
scanner_seats rs = map (λ (s : Scanner). s.seat) rs

abbrev pub scanner_draws : List Scanner → List StripeSeat
scanner_draws rs = map (λ (s : Scanner). s.draws) rs

-- outboxes as they were opened
abbrev pub AreNewOutboxes : Exchange → ℕ → List Outbox → Type 0
AreNewOutboxes e n os = (length os ≡ n)
    × ((s : ℕ) (d : Outbox) → s < n → IsOutboxOf e (slice_index_or os s d) × ((slice_index_or os s d).number ≡ s)
    × NothingPosted (sent_by_queue (slice_index_or os s d)))

abbrev pub IsScanner : {J G : Type 0} → Shared J G → Scanner → Type 0
IsScanner shared me = IsScannerOf shared.exchange.now shared.halt.now shared.stripes.now me

-- it is the same scanner, with the same stripes
abbrev pub SameScanner : Scanner → Scanner → Type 0
SameScanner old new = (new.outbox.number ≡ old.outbox.number) × (new.draws ≡ old.draws)

-- all that the two senders of a stripe have was posted
abbrev pub HasPostedStripe : Due → ℕ → ℕ → Exchange → ℕ → Posts → Type 0
HasPostedStripe due block stripes e x ps = HasPosted due block e x e.partitions ps × HasPosted due block e (stripes + x) e.partitions ps

-- all that the senders of its stripes have was posted
abbrev pub HasPostedHeld : Due → ℕ → ℕ → Exchange → Scanner → Type 0
HasPostedHeld due block stripes e me = (x : ℕ) → Holds me.draws x → HasPostedStripe due block stripes e x (sent_by_queue me.outbox)

-- what scanner n returns: it posted only planned parcels, and all of its stripes unless it has
-- raised or seen the halt word
pub record IsScanOf (due : Due) (block stripes : ℕ) (e : Exchange) (h : Halt) (st : Stripes) (n : ℕ) (me : Scanner) : Type 0 where
  pub scanner : IsScannerOf e h st me
  pub number : me.outbox.number ≡ n
  pub planned : OnlyPlanned due block (sent_by_queue me.outbox)
  pub posted : KnowsHalt me.seat ⊎ HasPostedHeld due block stripes e me

abbrev pub IsScan : {J G : Type 0} → Due → Shared J G → ℕ → Scanner → Type 0
IsScan due shared n me = IsScanOf due shared.settings.block shared.settings.workers shared.exchange.now shared.halt.now shared.stripes.now n me

-- what all scanners return, by outbox
abbrev pub AreScans : Due → ℕ → ℕ → Exchange → Halt → Stripes → List Scanner → Type 0
AreScans due block stripes e h st rs = (length rs ≡ e.outboxes)
    × ((o : ℕ) (d : Scanner) → o < e.outboxes → IsScanOf due block stripes e h st o (slice_index_or rs o d))
