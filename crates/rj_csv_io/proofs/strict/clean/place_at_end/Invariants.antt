use Rattle.std.proofs.Common.{◌≡◌}
use Rattle.std.specs.Slice.Iter.{chunks_rest}
use Rattle.rj_csv_io.specs.Internal.StrictWalk.{walk}
use Rattle.rj_csv_io.specs.declared.strict.standing.Place.TheVariants as place
use Rattle.rj_csv_io.proofs.strict.clean.place_at_end.Given as goal

abbrev pub invariant-loop-part : goal.invariant-loop-part
invariant-loop-part l =
    goal.iterator-loop-part.can_next l.part-iterator
    × goal.iterator-loop-part.is_finite l.part-iterator
    × (walk l.byte l.place (chunks_rest l.part-iterator) ≡ walk l.byte place.Start l.text)
