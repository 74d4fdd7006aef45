-- The rule of the stripe queue: each number below the limit occurs once in the queue or with one seat.
use Rattle.std.specs.Prelude.{◌≡◌, ℕ, zero, suc, ◌+◌, ◌-◌, ◌<◌, ◌≤◌, ◌==◌, cond, List, [], ◌∷◌, ◌++◌}
use mathlib.Core.Option.{some}
use lib.ListN.{get_elem?}
use Rattle.rj_exchange.specs.declared.stripes.Stripe.{Stripe}
use Rattle.rj_exchange.specs.declared.stripes.StripeShare.{StripeShare}
use Rattle.rj_exchange.specs.Totals.{total, total_below}

abbrev pub share : ℕ → ℕ → ℕ → List ℕ → List Stripe → List Stripe → StripeShare
share limit seats parts held drawn put = record { limit = limit; seats = seats; parts = parts; held = held; drawn = drawn; put = put }

abbrev pub stripe : ℕ → ℕ → Stripe
stripe number count = record { number = number; count = count }

-- the numbers below m, rising
abbrev pub below : ℕ → List ℕ
below zero = []
below (suc m) = below m ++ m ∷ []

-- the content of the queue at its opening: each number below m, with count 0
abbrev pub opening : ℕ → List Stripe
opening zero = []
opening (suc m) = opening m ++ stripe m 0 ∷ []

-- the list without the first x of it
abbrev pub without : ℕ → List ℕ → List ℕ
without x [] = []
without x (y ∷ ys) = cond (y == x) ys (y ∷ without x ys)

-- the sum of h over the numbers in the queue
abbrev pub total_queued : (ℕ → ℕ) → List Stripe → ℕ
total_queued h items = total (λ s. h s.number) items

-- a seat that has a part knows the limit and the seats; one with no part holds nothing, and has drawn and put back nothing
abbrev pub FitsShare : ℕ → ℕ → StripeShare → Type 0
FitsShare n m v = (v.parts ≡ 0 → (v.held ≡ []) × (v.drawn ≡ []) × (v.put ≡ [])) × (0 < v.parts → (v.limit ≡ n) × (v.seats ≡ m))

-- each number is once with a seat or in the queue; and what was drawn, with what the queue holds,
-- is what was put in: at the opening or by a seat. Sums for every h say "each as often".
pub record Striping (items : List Stripe) (views : List StripeShare) : Type 0 where
  pub limit : ℕ
  pub seats : ℕ
  pub parts : total (λ v. v.parts) views ≡ seats
  pub numbers : (h : ℕ → ℕ) → total (λ v. total h v.held) views + total_queued h items ≡ total_below h limit
  pub stripes : (h : Stripe → ℕ) → total (λ v. total h v.drawn) views + total h items ≡ total (λ v. total h v.put) views + total h (opening limit)
  pub fits : (id : ℕ) (v : StripeShare) → get_elem? views id ≡ some v → FitsShare limit seats v

abbrev pub first_share : StripeShare
first_share = share 0 1 1 [] [] []

abbrev pub no_share : StripeShare
no_share = share 0 0 0 [] [] []

-- what a seat learns of the queue: what it holds and what is queued are numbers below the limit,
-- each at most once. If it has every part, each is there once, and what it drew, with what is
-- queued, is what it put back and the content of the queue at its opening.
abbrev pub Accounts : StripeShare → List Stripe → Type 0
Accounts v items = ((h : ℕ → ℕ) → total h v.held + total_queued h items ≤ total_below h v.limit)
    × (v.parts ≡ v.seats → (h : ℕ → ℕ) → total h v.held + total_queued h items ≡ total_below h v.limit)
    × (v.parts ≡ v.seats → (h : Stripe → ℕ) → total h v.drawn + total h items ≡ total h v.put + total h (opening v.limit))

-- what a pop tells: the seat holds the number, which is one of those
abbrev pub Drew : StripeShare → Stripe → StripeShare → Type 0
Drew v x w = (w ≡ share v.limit v.seats v.parts (v.held ++ x.number ∷ []) (v.drawn ++ x ∷ []) v.put) × (x.number < v.limit)

-- what a push tells: the seat no longer holds the number
abbrev pub Gave : StripeShare → Stripe → StripeShare → Type 0
Gave v x w = w ≡ share v.limit v.seats v.parts (without x.number v.held) v.drawn (v.put ++ x ∷ [])

abbrev pub share_after_cut : StripeShare → StripeShare
share_after_cut v = share v.limit v.seats (v.parts - 1) v.held v.drawn v.put

abbrev pub share_cut_off : StripeShare → StripeShare
share_cut_off v = share v.limit v.seats 1 [] [] []

abbrev pub shares_joined : StripeShare → StripeShare → StripeShare
shares_joined v w = share v.limit v.seats (v.parts + w.parts) (v.held ++ w.held) (v.drawn ++ w.drawn) (v.put ++ w.put)

-- the opener has put in all that it was given at first, which it then forgets
abbrev pub share_settled : StripeShare → StripeShare
share_settled v = share v.limit v.seats v.parts v.held [] []
