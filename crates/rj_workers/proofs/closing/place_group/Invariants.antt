use Rattle.std.proofs.Common.{◌≡◌, ◌++◌, length}
use Rattle.std.specs.Vec.Iter.{into_iter_items, into_iter_len}
use Rattle.rj_workers.specs.Internal.Ends.{ArePlaced}
use Rattle.rj_workers.proofs.closing.place_group.Given as goal

abbrev pub invariant-loop-held : goal.invariant-loop-held
invariant-loop-held g l = record {
  rest : l.yielded ++ into_iter_items l.held-iterator ≡ l.fn.group.items;
  rest_len : into_iter_len l.held-iterator ≡ length (into_iter_items l.held-iterator);
  placed : ArePlaced l.yielded l.fn.slots.items l.slots.items;
}
