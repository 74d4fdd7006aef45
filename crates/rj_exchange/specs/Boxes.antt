-- What the contracts of an exchange say.
use Rattle.std.specs.Prelude.{◌≡◌, ℕ, ◌<◌, ◌+◌, ◌*◌, ◌%◌, List, [], ◌∷◌, ◌++◌, map, length, slice_index_or, slice_set, All, Option, Vec}
use Rattle.std.proofs.Common.{Global}
use Rattle.crossbeam_queue.specs.Passes.{view, IsPassOf}
use Rattle.crossbeam_queue.specs.Fifo.{Held}
use Rattle.crossbeam_queue.specs.declared.array_queue.Doing.{Doing}
use Rattle.crossbeam_queue.specs.declared.array_queue.Slotted.{Slotted}
use Rattle.crossbeam_queue.specs.declared.array_queue.Turns.{Turns}
use Rattle.rj_exchange.specs.declared.ledger.parcel.Parcel.{Parcel}
use Rattle.rj_exchange.specs.declared.posted.Posted.{Posted}
use Rattle.rj_exchange.specs.declared.queue.Where.{Where}
use Rattle.rj_exchange.specs.declared.queue.Trace.{Trace}
use Rattle.rj_exchange.specs.declared.queue.InOrder.{InOrder}
use Rattle.rj_exchange.specs.declared.boxes.Stub.{Stub}
use Rattle.rj_exchange.specs.declared.boxes.Exchange.{Exchange}
use Rattle.rj_exchange.specs.declared.boxes.Outbox.{Outbox}
use Rattle.rj_exchange.specs.declared.boxes.Inbox.{Inbox}
use Rattle.rj_exchange.specs.Passing.{Belongs, HeldAt, Left, Next, sender, taker, of, posted_by}

abbrev pub Queue : Type 0
Queue = Slotted (Option Posted) (Doing Posted Trace) (Turns InOrder) Global

abbrev pub where_at : Exchange → ℕ → ℕ → Where
where_at e p k = record { partition = p; lane = k; lanes = e.lanes; outboxes = e.outboxes }

-- the queues are in the order of partition, then lane
abbrev pub queue_of : Exchange → Parcel → ℕ
queue_of e x = x.partition * e.lanes + x.number % e.lanes

abbrev pub sent_of : Stub → List Parcel
sent_of s = (view s.pass).sent

abbrev pub taken_of : Stub → List Posted
taken_of s = (view s.pass).taken

-- what the first outboxes, which have ended, sent, as far as the token knows
abbrev pub heard_of : Stub → List (List Parcel)
heard_of s = (view s.pass).known

abbrev pub sent_by_queue : Outbox → List (List Parcel)
sent_by_queue o = map sent_of o.stubs.items

abbrev pub taken_by_lane : Inbox → List (List Posted)
taken_by_lane i = map taken_of i.ends.items

abbrev pub heard_by_lane : Inbox → List (List (List Parcel))
heard_by_lane i = map heard_of i.ends.items

-- a token of outbox k at this queue
abbrev pub IsStubOf : Where → ℕ → Queue → Stub → Type 0
IsStubOf place k l s = IsPassOf l s.pass × (view s.pass ≡ sender place k (view s.pass).sent)

abbrev pub IsEndOf : Where → ℕ → Queue → Stub → Type 0
IsEndOf place made l s = IsPassOf l s.pass × (view s.pass ≡ taker place made (view s.pass).taken (view s.pass).known)

pub record IsOutboxOf (e : Exchange) (o : Outbox) : Type 0 where
  pub many : length o.stubs.items ≡ e.partitions * e.lanes
  pub below : o.number < e.outboxes
  pub tokens : (p k : ℕ) (l : Queue) (s : Stub) → p < e.partitions → k < e.lanes
      → IsStubOf (where_at e p k) o.number (slice_index_or e.queues.items (p * e.lanes + k) l) (slice_index_or o.stubs.items (p * e.lanes + k) s)

-- an inbox of this exchange, whatever it has heard of outboxes that have ended
pub record TakesFrom (e : Exchange) (i : Inbox) : Type 0 where
  pub many : length i.ends.items ≡ e.lanes
  pub below : i.partition < e.partitions
  pub tokens : (k : ℕ) (l : Queue) (s : Stub) → k < e.lanes
      → IsEndOf (where_at e i.partition k) e.outboxes (slice_index_or e.queues.items (i.partition * e.lanes + k) l) (slice_index_or i.ends.items k s)

-- an inbox that has heard of no outbox's end
pub record IsInboxOf (e : Exchange) (i : Inbox) : Type 0 where
  pub takes : TakesFrom e i
  pub untold : (k : ℕ) → slice_index_or (heard_by_lane i) k [] ≡ []

-- an inbox that has heard of the ends of the first n outboxes
pub record HasHeard (e : Exchange) (n : ℕ) (i : Inbox) : Type 0 where
  pub takes : TakesFrom e i
  pub heard : (k : ℕ) → k < e.lanes → length (slice_index_or (heard_by_lane i) k []) ≡ n

-- what the outbox has sent to the queue of the parcel
abbrev pub sent_before : Exchange → Parcel → Outbox → List Parcel
sent_before e x o = slice_index_or (sent_by_queue o) (queue_of e x) []

-- the outbox has sent the parcel to its queue, after the others, and nothing else
abbrev pub SendsOneMore : Exchange → Parcel → Outbox → Outbox → Type 0
SendsOneMore e x old new = sent_by_queue new ≡ slice_set (sent_by_queue old) (queue_of e x) (sent_before e x old ++ x ∷ [])

-- at one moment the queue of the parcel held as many as its capacity, and those of this outbox
-- among them were the last that it had sent there
abbrev pub WasFull : Exchange → Parcel → Outbox → Type 0
WasFull e x o = Held e.capacity (HeldAt (where_at e x.partition (x.number % e.lanes)) o.number (sent_before e x o))

-- what the inbox knows of a lane
abbrev pub known_at_lane : Exchange → Inbox → ℕ → Trace
known_at_lane e i k = taker (where_at e i.partition k) e.outboxes (slice_index_or (taken_by_lane i) k []) (slice_index_or (heard_by_lane i) k [])

-- at one moment the queue of the lane held nothing: all that the inbox has heard of was taken there
abbrev pub WasEmpty : Exchange → Inbox → ℕ → Type 0
WasEmpty e i k = Held 0 (Left (known_at_lane e i k))

-- the inbox has taken the parcel at the lane, after the others, and nothing else: it is some
-- outbox's, belongs there, and was the first that was left
abbrev pub TakesOneMore : Exchange → ℕ → Parcel → Inbox → Inbox → Type 0
TakesOneMore e k x old new = (o : ℕ) × (taken_by_lane new ≡ slice_set (taken_by_lane old) k (slice_index_or (taken_by_lane old) k [] ++ posted_by o x ∷ []))
    × Belongs (where_at e old.partition k) (posted_by o x) × Next (known_at_lane e old k) (posted_by o x)

-- the tokens of a partition's queues from all outboxes, by outbox, then lane
pub record AreStubsOf (e : Exchange) (p : ℕ) (ss : List Stub) : Type 0 where
  pub many : length ss ≡ e.outboxes * e.lanes
  pub stubs : (o k : ℕ) (l : Queue) (s : Stub) → o < e.outboxes → k < e.lanes
      → IsStubOf (where_at e p k) o (slice_index_or e.queues.items (p * e.lanes + k) l) (slice_index_or ss (o * e.lanes + k) s)

-- the stubs of outbox o at a partition's queues, lane by lane
pub record AreStubsFrom (e : Exchange) (p o : ℕ) (ss : List Stub) : Type 0 where
  pub many : length ss ≡ e.lanes
  pub stubs : (k : ℕ) (l : Queue) (s : Stub) → k < e.lanes
      → IsStubOf (where_at e p k) o (slice_index_or e.queues.items (p * e.lanes + k) l) (slice_index_or ss k s)

-- for each outbox, the parcels of the list are those that it sent to lane k; there are no others
abbrev pub IsAllSent : ℕ → List Stub → ℕ → List Posted → Type 0
IsAllSent lanes ss k xs = (o : ℕ) → of o xs ≡ slice_index_or (map sent_of ss) (o * lanes + k) []

abbrev pub PostedVec : Type 0
PostedVec = Vec Posted Global

-- a list for each lane: what the inbox took there, followed by it, is all that the outboxes, which
-- left these stubs, sent there
abbrev pub AreRestsOf : Exchange → Inbox → List Stub → List PostedVec → Type 0
AreRestsOf e i ss rests = (length rests ≡ e.lanes)
    × ((k : ℕ) (v : PostedVec) → k < e.lanes → IsAllSent e.lanes ss k (slice_index_or (taken_by_lane i) k [] ++ (slice_index_or rests k v).items))

-- each parcel of the k-th list belongs to lane k of partition p
abbrev pub BelongToLanes : Exchange → ℕ → List PostedVec → Type 0
BelongToLanes e p rests = (k : ℕ) (v : PostedVec) → k < e.lanes → All (Belongs (where_at e p k)) (slice_index_or rests k v).items

-- for each lane the inbox has heard of one more list: what the next outbox, which left these stubs,
-- sent there
abbrev pub HearsOf : Exchange → List Stub → Inbox → Inbox → Type 0
HearsOf e ss old new = (k : ℕ) → k < e.lanes
    → slice_index_or (heard_by_lane new) k [] ≡ slice_index_or (heard_by_lane old) k [] ++ slice_index_or (map sent_of ss) k [] ∷ []

-- outboxes of the exchange, by number, that have posted nothing
abbrev pub AreOpenedOutboxes : Exchange → ℕ → ℕ → List Outbox → Type 0
AreOpenedOutboxes e n partitions os = (i : ℕ) (o : Outbox) → i < n → IsOutboxOf e (slice_index_or os i o) × ((slice_index_or os i o).number ≡ i)
    × ((p k : ℕ) (s : Stub) → p < partitions → k < e.lanes → sent_of (slice_index_or (slice_index_or os i o).stubs.items (p * e.lanes + k) s) ≡ [])

-- inboxes of the exchange, by partition, that have taken nothing
abbrev pub AreOpenedInboxes : Exchange → ℕ → List Inbox → Type 0
AreOpenedInboxes e n is = (p : ℕ) (i : Inbox) → p < n → IsInboxOf e (slice_index_or is p i) × ((slice_index_or is p i).partition ≡ p)
    × ((k : ℕ) (s : Stub) → k < e.lanes → taken_of (slice_index_or (slice_index_or is p i).ends.items k s) ≡ [])

-- an exchange of this many outboxes and partitions, with all its boxes, and nothing was posted or
-- taken
abbrev pub IsOpened : Exchange → List Outbox → List Inbox → ℕ → ℕ → Type 0
IsOpened e os is outboxes partitions = (e.outboxes ≡ outboxes) × (e.partitions ≡ partitions) × (length os ≡ outboxes) × (length is ≡ partitions)
    × AreOpenedOutboxes e outboxes partitions os × AreOpenedInboxes e partitions is
