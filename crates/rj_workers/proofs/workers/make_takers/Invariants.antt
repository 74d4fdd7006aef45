use Rattle.std.proofs.Common.{◌≡◌, ◌++◌, length}
use Rattle.std.specs.Prelude.{All}
use Rattle.std.specs.Vec.Iter.{into_iter_items, into_iter_len}
use Rattle.rj_workers.specs.Internal.Takes.{OwnsNothing, taker_done_seats, taker_draws, taker_seats}
use Rattle.rj_workers.proofs.workers.make_takers.Given as goal

abbrev pub invariant-loop-draws : goal.invariant-loop-draws
invariant-loop-draws g l = record {
  rest : l.yielded ++ into_iter_items l.draws-iterator ≡ l.fn.draws.items;
  rest_len : into_iter_len l.draws-iterator ≡ length (into_iter_items l.draws-iterator);
  draws : taker_draws l.takers.items ≡ l.yielded;
  seats : taker_seats l.takers.items ++ into_iter_items l.seats ≡ into_iter_items l.fn.seats;
  done_seats : taker_done_seats l.takers.items ++ into_iter_items l.done_seats ≡ into_iter_items l.fn.done_seats;
  empty : All OwnsNothing l.takers.items;
}
