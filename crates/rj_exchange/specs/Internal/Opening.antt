-- What the steps of the opening of an exchange say. Internal: no public contract uses it.
use Rattle.std.specs.Prelude.{◌≡◌, ℕ, ◌<◌, List, [], ◌∷◌, ◌++◌, length, slice_index_or}
use Rattle.crossbeam_queue.specs.Passes.{view, IsPassOf, ruled_capacity}
use Rattle.rj_exchange.specs.declared.queue.Where.{Where}
use Rattle.rj_exchange.specs.declared.boxes.Stub.{Stub}
use Rattle.rj_exchange.specs.declared.boxes.Outbox.{Outbox}
use Rattle.rj_exchange.specs.Passing.{sender, taker}
use Rattle.rj_exchange.specs.Boxes.{Queue}

abbrev pub place_of : ℕ → ℕ → ℕ → ℕ → Where
place_of p k lanes outboxes = record { partition = p; lane = k; lanes = lanes; outboxes = outboxes }

-- outbox i's token of this queue, which has sent nothing
abbrev pub IsFreshStub : Where → ℕ → Queue → Stub → Type 0
IsFreshStub p i l s = IsPassOf l s.pass × (view s.pass ≡ sender p i [])

-- the inbox's token of this queue, of which m senders were made, and which has taken nothing
abbrev pub IsFreshEnd : Where → ℕ → Queue → Stub → Type 0
IsFreshEnd p m l s = IsPassOf l s.pass × (view s.pass ≡ taker p m [] [])

-- a queue of this capacity, with such a token
abbrev pub IsFreshQueue : Where → ℕ → ℕ → Queue → Stub → Type 0
IsFreshQueue p m capacity l s = (ruled_capacity l ≡ capacity) × IsFreshEnd p m l s

-- an outbox gains a token of this queue
abbrev pub AddsStub : Where → ℕ → Queue → Outbox → Outbox → Type 0
AddsStub p i l old new = (new.number ≡ old.number) × ((s : Stub) × (new.stubs.items ≡ old.stubs.items ++ s ∷ []) × IsFreshStub p i l s)

-- each of n outboxes does
abbrev pub AddStubs : Where → ℕ → Queue → List Outbox → List Outbox → Type 0
AddStubs p n l old new = (length new ≡ n) × ((i : ℕ) (b d : Outbox) → i < n → AddsStub p i l (slice_index_or old i b) (slice_index_or new i d))
