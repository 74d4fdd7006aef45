-- What the contracts of stripes say.
use Rattle.std.specs.Prelude.{◌≡◌, ℕ, ◌<◌, List, [], length, slice_index_or, All, Option}
use Rattle.std.proofs.Common.{Global}
use Rattle.crossbeam_queue.specs.declared.array_queue.Doing.{Doing}
use Rattle.crossbeam_queue.specs.declared.array_queue.Slotted.{Slotted}
use Rattle.crossbeam_queue.specs.declared.array_queue.Turns.{Turns}
use Rattle.rj_exchange.specs.declared.stripes.StripeShare.{StripeShare}
use Rattle.rj_exchange.specs.declared.stripes.EachStripeOnce.{EachStripeOnce}
use Rattle.crossbeam_queue.specs.Passes.{view, IsPassOf}
use Rattle.rj_exchange.specs.declared.stripes.Stripe.{Stripe}
use Rattle.rj_exchange.specs.declared.stripes.Stripes.{Stripes}
use Rattle.rj_exchange.specs.declared.stripes.StripeSeat.{StripeSeat}
use Rattle.rj_exchange.specs.Totals.{total}
use Rattle.rj_exchange.specs.Tickets.{times}
use Rattle.rj_exchange.specs.Striping.{share, Accounts}

abbrev pub StripeQueue : Type 0
StripeQueue = Slotted (Option Stripe) (Doing Stripe StripeShare) (Turns EachStripeOnce) Global

abbrev pub held_by : StripeSeat → List ℕ
held_by s = (view s.pass).held

-- what it drew, each number with its count, and what it put back, in order
abbrev pub stripes_drawn_by : StripeSeat → List Stripe
stripes_drawn_by s = (view s.pass).drawn

abbrev pub stripes_put_by : StripeSeat → List Stripe
stripes_put_by s = (view s.pass).put

-- the sum of h over the stripes that the seats drew, or put back
abbrev pub drew_in_all : (Stripe → ℕ) → List StripeSeat → ℕ
drew_in_all h ss = total (λ s. total h (stripes_drawn_by s)) ss

abbrev pub put_in_all : (Stripe → ℕ) → List StripeSeat → ℕ
put_in_all h ss = total (λ s. total h (stripes_put_by s)) ss

abbrev pub stripes_of : Stripes → ℕ
stripes_of t = t.limit

abbrev pub stripe_seats_of : Stripes → ℕ
stripe_seats_of t = t.seats

-- it was opened with these stripes
abbrev pub IsStripeSeatOf : Stripes → StripeSeat → Type 0
IsStripeSeatOf t s = IsPassOf t.queue s.pass × (view s.pass ≡ share t.limit t.seats 1 (view s.pass).held (view s.pass).drawn (view s.pass).put)

abbrev pub IsNewStripeSeat : StripeSeat → Type 0
IsNewStripeSeat s = (held_by s ≡ []) × (stripes_drawn_by s ≡ []) × (stripes_put_by s ≡ [])

abbrev pub AreAllStripeSeats : Stripes → List StripeSeat → Type 0
AreAllStripeSeats t ss = (length ss ≡ stripe_seats_of t) × All (IsStripeSeatOf t) ss

abbrev pub Holds : StripeSeat → ℕ → Type 0
Holds s x = 0 < times x (held_by s)

-- one of the seats holds x, and no other does
pub record HasHolder (x : ℕ) (ss : List StripeSeat) : Type 0 where
  pub place : ℕ
  pub within : place < length ss
  pub holds : (d : StripeSeat) → Holds (slice_index_or ss place d) x
  pub alone : (i : ℕ) (d : StripeSeat) → i < length ss → Holds (slice_index_or ss i d) x → i ≡ place

-- what a seat knows of the queue at a moment
abbrev pub Queued : StripeSeat → List Stripe → Type 0
Queued s items = Accounts (view s.pass) items
