use Rattle.std.proofs.Common.{◌≡◌, ◌<◌, ◌+◌, ℕ, length, All}
use Rattle.crossbeam_queue.specs.Passes.{view, IsPassOf}
use Rattle.rj_exchange.specs.Totals.{total}
use Rattle.rj_exchange.specs.declared.stripes.Stripe.{Stripe}
use Rattle.rj_exchange.specs.Stripes.{drew_in_all, put_in_all}
use Rattle.rj_exchange.proofs.Shares.{IsStripeDealt, HeldBy}
use Rattle.rj_exchange.proofs.stripes.Stripes.finish.Given as goal

abbrev pub invariant-loop-next : goal.invariant-loop-next
invariant-loop-next g l = record {
  pass : IsPassOf l.queue l.all;
  limit : (view l.all).limit ≡ l.fn.self.limit;
  seats : (view l.all).seats ≡ l.fn.self.seats;
  some : 0 < (view l.all).parts;
  parts : (view l.all).parts + length l.seats.items ≡ l.fn.self.seats;
  numbers : (h : ℕ → ℕ) → total h (view l.all).held + HeldBy l.seats.items h ≡ HeldBy l.fn.seats.items h;
  drawn : (h : Stripe → ℕ) → total h (view l.all).drawn + drew_in_all h l.seats.items ≡ drew_in_all h l.fn.seats.items;
  put : (h : Stripe → ℕ) → total h (view l.all).put + put_in_all h l.seats.items ≡ put_in_all h l.fn.seats.items;
  theirs : All (IsStripeDealt l.queue l.fn.self.limit l.fn.self.seats) l.seats.items;
}

abbrev pub decreases-loop-next : goal.decreases-loop-next
decreases-loop-next g l = goal.left-loop-next g l
