use Rattle.std.proofs.Common.{◌≡◌, ◌++◌, length, map}
use Rattle.std.specs.Vec.Iter.{into_iter_items, into_iter_len}
use Rattle.rj_workers.proofs.sharing.make_drawers.Given as goal

abbrev pub invariant-loop-draws : goal.invariant-loop-draws
invariant-loop-draws l = record {
  rest : l.yielded ++ into_iter_items l.draws-iterator ≡ l.fn.draws.items;
  rest_len : into_iter_len l.draws-iterator ≡ length (into_iter_items l.draws-iterator);
  left : length (into_iter_items l.left) ≡ length (into_iter_items l.draws-iterator);
  draws : map (λ d. d.draws) l.drawers.items ≡ l.yielded;
  seats : map (λ d. d.seat) l.drawers.items ++ into_iter_items l.left ≡ l.fn.seats.items;
}
