-- The rule of a queue: what was taken, and then what it holds, interleaves what each outbox sent.
use Rattle.std.specs.Prelude.{◌≡◌, ◌≢◌, ℕ, ◌<◌, ◌≤◌, ◌%◌, ◌==◌, true, false, cond, List, [], ◌∷◌, ◌++◌, length, slice_index_or, All}
use mathlib.Core.Option.{some}
use lib.ListN.{get_elem?}
use Rattle.rj_exchange.specs.declared.ledger.parcel.Parcel.{Parcel}
use Rattle.rj_exchange.specs.declared.posted.Posted.{Posted}
use Rattle.rj_exchange.specs.declared.queue.Where.{Where}
use Rattle.rj_exchange.specs.declared.queue.Trace.{Trace}

-- the parcels of outbox k, in order
abbrev pub of : ℕ → List Posted → List Parcel
of k [] = []
of k (x ∷ xs) = cond (x.outbox == k) (x.parcel ∷ of k xs) (of k xs)

-- for each outbox its parcels in the list are those that it sent, in order; there are no others
abbrev pub Interleaves : List (List Parcel) → List Posted → Type 0
Interleaves sents xs = (k : ℕ) → of k xs ≡ slice_index_or sents k []

abbrev pub Belongs : Where → Posted → Type 0
Belongs p x = (x.parcel.partition ≡ p.partition) × (x.parcel.number % p.lanes ≡ p.lane) × (x.outbox < p.outboxes)

abbrev pub no_place : Where
no_place = record { partition = 0; lane = 0; lanes = 0; outboxes = 0 }

abbrev pub no_trace : Trace
no_trace = record { place = no_place; placed = false; sends = false; outbox = 0; sent = []; takes = false; made = 0; taken = []; known = [] }

abbrev pub first_trace : Trace
first_trace = record { place = no_place; placed = false; sends = false; outbox = 0; sent = []; takes = true; made = 0; taken = []; known = [] }

abbrev pub taker : Where → ℕ → List Posted → List (List Parcel) → Trace
taker p made taken known = record { place = p; placed = true; sends = false; outbox = 0; sent = []; takes = true; made = made; taken = taken; known = known }

abbrev pub sender : Where → ℕ → List Parcel → Trace
sender p k sent = record { place = p; placed = true; sends = true; outbox = k; sent = sent; takes = false; made = 0; taken = []; known = [] }

-- what the taker's token knows, and what a sender's does
abbrev pub IsTakerTrace : Trace → Type 0
IsTakerTrace v = v ≡ taker v.place v.made v.taken v.known

abbrev pub IsSenderTrace : Trace → Type 0
IsSenderTrace v = v ≡ sender v.place v.outbox v.sent

-- a sender is its outbox's only one, and knows what the outbox sent
pub record FitsSender (reader : ℕ) (owner : ℕ → ℕ) (place : Where) (posted : List Posted) (pass : ℕ) (v : Trace) : Type 0 where
  pub mine : owner v.outbox ≡ pass
  pub other : pass ≢ reader
  pub sent : v.sent ≡ of v.outbox posted
  pub there : v.place ≡ place

-- the one taker knows what it took, that outboxes to come have sent nothing, and what those that have ended sent
pub record FitsTaker (reader : ℕ) (owner : ℕ → ℕ) (place : Where) (got items : List Posted) (pass : ℕ) (v : Trace) : Type 0 where
  pub only : pass ≡ reader
  pub taken : v.taken ≡ got
  pub later : (k : ℕ) → v.made ≤ k → (owner k ≡ reader) × (of k (got ++ items) ≡ [])
  pub ended : (k : ℕ) → k < length v.known → (owner k ≡ reader) × (of k (got ++ items) ≡ slice_index_or v.known k [])
  pub known : length v.known ≤ v.made
  pub there : v.placed ≡ true → v.place ≡ place
  pub unplaced : v.placed ≡ false → (v.made ≡ 0) × (items ≡ [])

-- owner k is the pass that sends for outbox k, or the taker's
pub record Passing (items : List Posted) (views : List Trace) : Type 0 where
  pub reader : ℕ
  pub owner : ℕ → ℕ
  pub place : Where
  pub got : List Posted
  pub belong : All (Belongs place) items
  pub senders : (pass : ℕ) (v : Trace) → get_elem? views pass ≡ some v → v.sends ≡ true → FitsSender reader owner place (got ++ items) pass v
  pub takers : (pass : ℕ) (v : Trace) → get_elem? views pass ≡ some v → v.takes ≡ true → FitsTaker reader owner place got items pass v

-- what a sender learns of what the queue holds: all of it belongs there, and its own parcels there are the last ones that it sent, in order
abbrev pub HeldAt : Where → ℕ → List Parcel → List Posted → Type 0
HeldAt p k sent items = All (Belongs p) items × ((before : List Parcel) × (sent ≡ before ++ of k items))

-- of each outbox of whose end the taker has heard, the list has all that it sent; if it has heard
-- of all of them, it has that and no more
abbrev pub HasAllHeard : Trace → List Posted → Type 0
HasAllHeard v xs = ((k : ℕ) → k < length v.known → of k xs ≡ slice_index_or v.known k []) × (length v.known ≡ v.made → Interleaves v.known xs)

-- what the taker learns of what is left: it belongs there, and what was taken with it has all that was heard of
abbrev pub Left : Trace → List Posted → Type 0
Left v items = All (Belongs v.place) items × HasAllHeard v (v.taken ++ items)

-- x is the first of what is left
abbrev pub Next : Trace → Posted → Type 0
Next v x = (items : List Posted) × Left v (x ∷ items)

-- what a pop tells the taker
abbrev pub Took : Trace → Posted → Trace → Type 0
Took v x w = (w ≡ taker v.place v.made (v.taken ++ x ∷ []) v.known) × Belongs v.place x × Next v x

abbrev pub posted_by : ℕ → Parcel → Posted
posted_by o x = record { outbox = o; parcel = x }
