use Rattle.std.proofs.Common.{◌≡◌, ◌≤◌, ◌-◌, length, take}
use Rattle.rj_csv_io.specs.Cuts.{place_after}
use Rattle.rj_csv_io.specs.Pieces.{IsLastEnd}
use Rattle.rj_csv_io.specs.declared.place.ReaderPlace.TheVariants as place
use Rattle.rj_csv_io.proofs.stretches.last_cut.Given as goal

abbrev pub invariant-loop-at : goal.invariant-loop-at
invariant-loop-at l = record {
  within : l.at ≤ length l.text;
  place : l.place ≡ place_after l.byte place.Fresh (take l.at l.text);
  last : IsLastEnd l.byte l.text l.at l.last;
}

abbrev pub decreases-loop-at : goal.decreases-loop-at
decreases-loop-at l = length l.text - l.at
