-- Lists of stripe seats.
use Rattle.std.proofs.Common.{◌≡◌, ℕ, ◌+◌, ◌<◌, List, [], ◌∷◌, map, length, ap, arith, lt_of_not-le}
use mathlib.Core.Logic.{dite}
use native.Mathlib.Decide.{dec_le}
use Rattle.crossbeam_queue.specs.Passes.{view, IsPassOf}
use Rattle.rj_exchange.specs.declared.stripes.Stripe.{Stripe}
use Rattle.rj_exchange.specs.declared.stripes.StripeShare.{StripeShare}
use Rattle.rj_exchange.specs.declared.stripes.StripeSeat.{StripeSeat}
use Rattle.rj_exchange.specs.Totals.{total, total_below}
use Rattle.rj_exchange.specs.Tickets.{times, EachOnce}
use Rattle.rj_exchange.specs.Striping.{share, opening, Accounts}
use Rattle.rj_exchange.specs.Stripes.{StripeQueue, held_by, drew_in_all, put_in_all}
use Rattle.rj_exchange.proofs.Totals.{below_over, below_under, here, here_same}
use Rattle.rj_exchange.proofs.Seats.{total-map}

abbrev pub IsStripeDealt : StripeQueue → ℕ → ℕ → StripeSeat → Type 0
IsStripeDealt q n m s = IsPassOf q s.pass × (view s.pass ≡ share n m 1 (view s.pass).held (view s.pass).drawn (view s.pass).put)

abbrev pub HeldBy : List StripeSeat → (ℕ → ℕ) → ℕ
HeldBy ss h = total (λ s. total h (held_by s)) ss

-- where the queue is empty, the seats hold each number once
pub all_held : (n : ℕ) (v : StripeShare) (items : List Stripe) (ss : List StripeSeat) → Accounts v items → v.parts ≡ v.seats → v.limit ≡ n → ((h : ℕ → ℕ) → total h v.held ≡ HeldBy ss h) → length items ≡ 0 → EachOnce n (map held_by ss)
all_held n v [] ss a all limit same none = λ x. let f : ℕ → ℕ = here x in let e = a.1 all f in let s = same f in let m = total-map (times x) held_by ss in let l = ap (total_below f) limit in
    ((λ lt. let u = below_under x n lt in omega arith), (λ le. let u = below_over x n le in omega arith))
all_held n v (y ∷ ys) ss a all limit same none = absurd (omega arith)

-- where it isn't, they don't
pub not_all_held : (n : ℕ) (v : StripeShare) (items : List Stripe) (ss : List StripeSeat) → Accounts v items → v.parts ≡ v.seats → v.limit ≡ n → ((h : ℕ → ℕ) → total h v.held ≡ HeldBy ss h) → 0 < length items → EachOnce n (map held_by ss) → ⊥
not_all_held n v [] ss a all limit same some_left once = absurd (omega arith)
not_all_held n v (y ∷ ys) ss a all limit same some_left once =
    let x : ℕ = y.number in let f : ℕ → ℕ = here x in let e = a.1 all f in let s = same f in let m = total-map (times x) held_by ss in let l = ap (total_below f) limit in let one = here_same x in
    dite (dec_le n x) (λ le. let u = below_over x n le in omega arith) (λ ne. let lt : x < n = lt_of_not-le ne in let u = below_under x n lt in let o = (once x).0 lt in omega arith)

-- what the seats drew is among what was put in
pub counted : (n : ℕ) (v : StripeShare) (items : List Stripe) (ss : List StripeSeat) → Accounts v items → v.parts ≡ v.seats → v.limit ≡ n → ((h : Stripe → ℕ) → total h v.drawn ≡ drew_in_all h ss)
    → ((h : Stripe → ℕ) → total h v.put ≡ put_in_all h ss)
    → (h : Stripe → ℕ) → drew_in_all h ss + total h items ≡ put_in_all h ss + total h (opening n)
counted n v items ss a all limit drawn put h = let e = a.2 all h in let d = drawn h in let p = put h in let l = ap (λ k. total h (opening k)) limit in omega arith
