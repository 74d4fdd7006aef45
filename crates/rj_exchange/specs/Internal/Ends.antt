-- What the steps at the end of an inbox say. Internal: no public contract uses it.
use Rattle.std.specs.Prelude.{◌≡◌, ℕ, zero, suc, ◌<◌, ◌≤◌, ◌+◌, ◌*◌, List, [], ◌∷◌, ◌++◌, map, length, slice_index_or, All, vec_capacity}
use Rattle.crossbeam_queue.specs.Passes.{view, IsPassOf}
use Rattle.rj_exchange.specs.declared.ledger.parcel.Parcel.{Parcel}
use Rattle.rj_exchange.specs.declared.boxes.Stub.{Stub}
use Rattle.rj_exchange.specs.declared.boxes.Exchange.{Exchange}
use Rattle.rj_exchange.specs.Passing.{taker, IsTakerTrace, Belongs, Interleaves}
use Rattle.rj_exchange.specs.Boxes.{Queue, PostedVec, sent_of, taken_of, IsStubOf}

-- the queue of partition p and lane k, if there is one
abbrev pub lane_queue : Exchange → ℕ → ℕ → Queue → Queue
lane_queue e p k l = slice_index_or e.queues.items (p * e.lanes + k) l

-- what is left of a list after its first n
abbrev pub IsLater : ℕ → List Stub → List Stub → Type 0
IsLater n old new = (length new + n ≡ length old) × ((i : ℕ) (d : Stub) → slice_index_or new i d ≡ slice_index_or old (n + i) d)

-- an inbox's token, which knows n outboxes that have ended
abbrev pub IsTaker : ℕ → Queue → Stub → Type 0
IsTaker n l s = IsPassOf l s.pass × IsTakerTrace (view s.pass) × (length (view s.pass).known ≡ n)

-- the tokens of an inbox of partition p, lane by lane, each of which knows the first n outboxes
abbrev pub AreTakers : Exchange → ℕ → ℕ → List Stub → Type 0
AreTakers e p n ends = (length ends ≡ e.lanes)
    × ((k : ℕ) (l : Queue) (s : Stub) → k < e.lanes → IsTaker n (lane_queue e p k l) (slice_index_or ends k s))

-- each of them knows as many outboxes as were made
abbrev pub HaveHeardAll : Exchange → ℕ → List Stub → Type 0
HaveHeardAll e p ends = (length ends ≡ e.lanes)
    × ((k : ℕ) (l : Queue) (s : Stub) → k < e.lanes → IsTaker (view (slice_index_or ends k s).pass).made (lane_queue e p k l) (slice_index_or ends k s))

-- a token of outbox o at this queue, whatever it sent there
abbrev pub IsSender : ℕ → Queue → Stub → Type 0
IsSender o l s = IsStubOf (view s.pass).place o l s

-- the list begins with the tokens of outbox o at the queues of partition p, lane by lane
abbrev pub BeginWithSenders : Exchange → ℕ → ℕ → List Stub → Type 0
BeginWithSenders e p o ss = (e.lanes ≤ length ss) × ((k : ℕ) (l : Queue) (s : Stub) → k < e.lanes → IsSender o (lane_queue e p k l) (slice_index_or ss k s))

-- it knows of one more outbox
abbrev pub IsGrown : Queue → Stub → Stub → Stub → Type 0
IsGrown l old stub new = IsPassOf l new.pass
    × (view new.pass ≡ taker (view old.pass).place (view old.pass).made (view old.pass).taken ((view old.pass).known ++ sent_of stub ∷ []))

-- lane by lane, each token of an inbox knows of one more outbox, whose tokens begin the list ss
abbrev pub AreGrown : Exchange → ℕ → List Stub → List Stub → List Stub → Type 0
AreGrown e p old ss new = (length new ≡ e.lanes)
    × ((k : ℕ) (l : Queue) (s t u : Stub) → k < e.lanes
    → IsGrown (lane_queue e p k l) (slice_index_or old k s) (slice_index_or ss k t) (slice_index_or new k u))

-- what the first o outboxes sent to lane k
abbrev pub known_of : ℕ → List Stub → ℕ → ℕ → List (List Parcel)
known_of lanes ss k zero = []
known_of lanes ss k (suc o) = known_of lanes ss k o ++ slice_index_or (map sent_of ss) (o * lanes + k) [] ∷ []

-- an inbox's token, which knows what some outboxes sent
abbrev pub Knows : Queue → Stub → List (List Parcel) → Stub → Type 0
Knows l old known new = IsPassOf l new.pass × (view new.pass ≡ taker (view old.pass).place (view old.pass).made (view old.pass).taken known)

-- lane by lane, each token of an inbox knows what all outboxes, which left the stubs ss, sent there
abbrev pub AllKnow : Exchange → ℕ → List Stub → List Stub → List Stub → Type 0
AllKnow e p old ss new = (length new ≡ e.lanes)
    × ((k : ℕ) (l : Queue) (s u : Stub) → k < e.lanes
    → Knows (lane_queue e p k l) (slice_index_or old k s) (known_of e.lanes ss k e.outboxes) (slice_index_or new k u))

-- an empty list with room for this many parcels
abbrev pub IsRoom : ℕ → PostedVec → Type 0
IsRoom cap v = (v.items ≡ []) × (cap ≤ vec_capacity v)

-- such a list for each lane
abbrev pub AreRooms : ℕ → ℕ → List PostedVec → Type 0
AreRooms lanes cap rooms = (length rooms ≡ lanes) × All (IsRoom cap) rooms

-- what the token has taken, and then the rest, has all that the token knows of, and no more
abbrev pub IsRestOf : Stub → PostedVec → Type 0
IsRestOf s v = Interleaves (view s.pass).known (taken_of s ++ v.items)

-- lane by lane
abbrev pub AreRests : ℕ → List Stub → List PostedVec → Type 0
AreRests lanes ends rests = (length rests ≡ lanes) × ((k : ℕ) (s : Stub) (v : PostedVec) → k < lanes → IsRestOf (slice_index_or ends k s) (slice_index_or rests k v))

-- lane by lane, each parcel of the rest belongs to the token's queue
abbrev pub BelongToQueues : ℕ → List Stub → List PostedVec → Type 0
BelongToQueues lanes ends rests = (k : ℕ) (s : Stub) (v : PostedVec) → k < lanes
    → All (Belongs (view (slice_index_or ends k s).pass).place) (slice_index_or rests k v).items
