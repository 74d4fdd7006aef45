use Rattle.std.proofs.Common.{◌≡◌, ◌+◌, [], length, All}
use Rattle.crossbeam_queue.specs.Passes.{view, IsPassOf}
use Rattle.rj_exchange.specs.Striping.{share}
use Rattle.rj_exchange.specs.Stripes.{IsNewStripeSeat}
use Rattle.rj_exchange.proofs.Shares.{IsStripeDealt}
use Rattle.rj_exchange.proofs.stripes.Stripes.open.Given as goal

abbrev pub ghosts-empty : goal.ghosts-empty
ghosts-empty g a = record { limit = a.n; seats = a.seats }

abbrev pub invariant-loop : goal.invariant-loop
invariant-loop g l = record {
  pass : IsPassOf l.queue l.all;
  knows : view l.all ≡ share l.n l.seats (view l.all).parts [] [] [];
  parts : (view l.all).parts + length l.dealt.items ≡ l.seats;
  dealt : length l.dealt.items + 1 ≡ l.counter;
  theirs : All (IsStripeDealt l.queue l.n l.seats) l.dealt.items;
  fresh : All IsNewStripeSeat l.dealt.items;
}
