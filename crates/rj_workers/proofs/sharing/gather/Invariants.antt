use Rattle.std.proofs.Common.{◌≡◌, ◌++◌, length}
use Rattle.std.specs.Vec.Iter.{into_iter_items, into_iter_len}
use Rattle.rj_workers.specs.Sharing.{AreGathered}
use Rattle.rj_workers.proofs.sharing.gather.Given as goal

abbrev pub invariant-loop-result : goal.invariant-loop-result
invariant-loop-result g l = record {
  rest : l.yielded ++ into_iter_items l.result-iterator ≡ l.fn.results.items;
  rest_len : into_iter_len l.result-iterator ≡ length (into_iter_items l.result-iterator);
  gathered : AreGathered l.yielded l.draws.items l.seats.items l.all.items;
}
