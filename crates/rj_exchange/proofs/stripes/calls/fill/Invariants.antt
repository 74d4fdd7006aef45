use Rattle.std.proofs.Common.{◌≡◌, ◌+◌, ℕ}
use Rattle.crossbeam_queue.specs.Passes.{view, IsPassOf}
use Rattle.rj_exchange.specs.Totals.{total, total_below}
use Rattle.rj_exchange.specs.Striping.{share, opening}
use Rattle.rj_exchange.proofs.stripes.calls.fill.Given as goal

abbrev pub invariant-loop-number : goal.invariant-loop-number
invariant-loop-number g l = record {
  pass : IsPassOf l.queue l.pass;
  knows : view l.pass ≡ share l.n (view l.fn.pass).seats (view l.fn.pass).parts (view l.pass).held (view l.pass).drawn (view l.pass).put;
  left : (h : ℕ → ℕ) → total h (view l.pass).held + total_below h l.number ≡ total_below h l.n;
  drawn : (view l.pass).drawn ≡ opening l.n;
  put : (view l.pass).put ≡ opening l.number;
}
