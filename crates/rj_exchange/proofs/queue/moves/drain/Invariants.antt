use Rattle.std.proofs.Common.{◌≡◌, ◌≤◌, ◌++◌, All, vec_capacity}
use Rattle.crossbeam_queue.specs.Passes.{view, IsSamePass, ruled_capacity}
use Rattle.rj_exchange.specs.Passing.{taker, Belongs}
use Rattle.rj_exchange.proofs.queue.moves.drain.Given as goal

abbrev pub invariant-loop : goal.invariant-loop
invariant-loop g l = record {
  placed : All (Belongs (view l.fn.pass).place) l.rest.items;
  pass : IsSamePass l.fn.pass l.pass;
  view : view l.pass ≡ taker (view l.fn.pass).place (view l.fn.pass).made ((view l.fn.pass).taken ++ l.rest.items) (view l.fn.pass).known;
  room : ruled_capacity l.queue ≤ vec_capacity l.rest;
}
