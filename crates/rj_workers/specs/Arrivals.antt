-- What takers have taken, and what has arrived in the end.
use Rattle.std.specs.Prelude.{◌≡◌, ℕ, ◌+◌, ◌*◌, ◌<◌, true, false, List, [], map, length, slice_index_or, Contains}
use Rattle.std.specs.List.{flat_map, range_with_len}
use Rattle.rj_exchange.specs.declared.ledger.parcel.Parcel.{Parcel}
use Rattle.rj_exchange.specs.declared.ledger.parcel.Reason.TheVariants.{AfterClose}
use Rattle.rj_exchange.specs.declared.ledger.parcel.Answer.TheVariants.{Refused}
use Rattle.rj_exchange.specs.Reading.{IsRefused}
use Rattle.rj_exchange.specs.Rules.{is_bad_length}
use Rattle.rj_exchange.specs.Ledgers.{LedgerValue, IsComplete, opened, standing, answer_to, after_all}
use Rattle.rj_exchange.specs.declared.posted.Posted.{Posted}
use Rattle.rj_exchange.specs.declared.boxes.Exchange.{Exchange}
use Rattle.rj_exchange.specs.declared.boxes.Inbox.{Inbox}
use Rattle.rj_exchange.specs.declared.boxes.Outbox.{Outbox}
use Rattle.rj_exchange.specs.declared.boxes.Stub.{Stub}
use Rattle.rj_exchange.specs.Passing.{posted_by}
use Rattle.rj_exchange.specs.Boxes.{PostedVec, taken_by_lane, sent_of, IsOutboxOf, IsInboxOf}
use Rattle.rj_workers.specs.Posts.{Due, Posts, posts_at}

-- what was taken at each lane
abbrev pub Takes : Type 0
Takes = List (List Posted)

abbrev pub takes_at : Takes → ℕ → List Posted
takes_at ts k = slice_index_or ts k []

-- the list has what was taken, and nothing else
abbrev pub IsArrived : Takes → List Parcel → Type 0
IsArrived ts xs = ((x : Parcel) → Contains xs x → (k : ℕ) × (o : ℕ) × Contains (takes_at ts k) (posted_by o x))
    × ((k o : ℕ) (x : Parcel) → Contains (takes_at ts k) (posted_by o x) → Contains xs x)

-- an inbox, with the ledger to which all that it took was offered
abbrev pub IsTaking : Exchange → ℕ → ℕ → Inbox → LedgerValue → Type 0
IsTaking e senders block i v = IsInboxOf e i × ((xs : List Parcel) × IsArrived (taken_by_lane i) xs × (v ≡ after_all (opened i.partition senders block) xs))

-- the delivered rows of each sender
abbrev pub rows_by_sender : LedgerValue → List (List ℕ)
rows_by_sender v = map (λ s. s.rows) v.senders

-- the rows that each sender below n has for partition p
abbrev pub due_lists : Due → ℕ → ℕ → List (List ℕ)
due_lists due n p = map (λ s. due s p) (range_with_len 0 n)

abbrev pub parcel_of : Posted → Parcel
parcel_of x = x.parcel

-- the parcels of the rest, lane by lane
abbrev pub parcels_of : List PostedVec → List Parcel
parcels_of rests = flat_map (λ v. map parcel_of v.items) rests

-- the list has what all outboxes posted, with the posts by outbox and then lane, and nothing else
abbrev pub IsAllArrived : ℕ → ℕ → Posts → List Parcel → Type 0
IsAllArrived outboxes lanes ps xs = ((x : Parcel) → Contains xs x → (o : ℕ) × (k : ℕ) × (o < outboxes) × (k < lanes) × Contains (posts_at ps (o * lanes + k)) x)
    × ((o k : ℕ) (x : Parcel) → o < outboxes → k < lanes → Contains (posts_at ps (o * lanes + k)) x → Contains xs x)

-- the first stubs of each list, list by list
abbrev pub AreFirstOf : ℕ → List (List Stub) → List Stub → Type 0
AreFirstOf n lists ss = (length ss ≡ length lists * n)
    × ((o k : ℕ) (s : Stub) → o < length lists → k < n → slice_index_or ss (o * n + k) s ≡ slice_index_or (slice_index_or lists o []) k s)

abbrev pub stub_lists : List Outbox → List (List Stub)
stub_lists os = map (λ o. o.stubs.items) os

-- the list has what the outboxes, which left these stubs, posted to the queues of partition p, and nothing else
abbrev pub IsPartition : ℕ → ℕ → List (List Stub) → ℕ → List Parcel → Type 0
IsPartition outboxes lanes lists p xs = ((x : Parcel) → Contains xs x
    → (o : ℕ) × (k : ℕ) × (o < outboxes) × (k < lanes) × Contains (posts_at (map sent_of (slice_index_or lists o [])) (p * lanes + k)) x)
    × ((o k : ℕ) (x : Parcel) → o < outboxes → k < lanes → Contains (posts_at (map sent_of (slice_index_or lists o [])) (p * lanes + k)) x → Contains xs x)

-- a ledger to which all that these stubs' outboxes posted for partition p was offered
abbrev pub HasArrived : ℕ → ℕ → ℕ → ℕ → Posts → ℕ → LedgerValue → Type 0
HasArrived senders block outboxes lanes ps p v = (xs : List Parcel) × IsAllArrived outboxes lanes ps xs × (v ≡ after_all (opened p senders block) xs)

-- a ledger to which all that the outboxes, which left these stubs, posted for partition p was offered
abbrev pub IsFilled : ℕ → ℕ → ℕ → ℕ → List (List Stub) → ℕ → LedgerValue → Type 0
IsFilled senders block outboxes lanes lists p v = (xs : List Parcel) × IsPartition outboxes lanes lists p xs × (v ≡ after_all (opened p senders block) xs)

-- outbox o is the o-th
abbrev pub AreOutboxes : Exchange → List Outbox → Type 0
AreOutboxes e os = (length os ≡ e.outboxes)
    × ((o : ℕ) (d : Outbox) → o < e.outboxes → IsOutboxOf e (slice_index_or os o d) × ((slice_index_or os o d).number ≡ o))

-- the ledger of partition p and n senders is complete, and has delivered of each what it has for this partition
pub record IsDelivered (due : Due) (n p : ℕ) (v : LedgerValue) : Type 0 where
  pub partition : v.partition ≡ p
  pub senders : length v.senders ≡ n
  pub complete : IsComplete v
  pub rows : (s : ℕ) → s < n → (standing v s).rows ≡ due s p

-- the ledger of partition p has the close of each of n senders. Whatever is offered to it is
-- refused and changes nothing; a parcel for this partition, of a known sender and a valid length,
-- is refused because of that close
pub record AcceptsNoMore (n p : ℕ) (v : LedgerValue) : Type 0 where
  pub closed : (s : ℕ) → s < n → (standing v s).closed ≡ true
  pub refused : (x : Parcel) → IsRefused (answer_to v x)
  pub for_the_close : (x : Parcel) → x.partition ≡ p → x.sender < n → is_bad_length v.block x.body ≡ false → answer_to v x ≡ Refused AfterClose
  pub stays : (xs : List Parcel) → after_all v xs ≡ v
