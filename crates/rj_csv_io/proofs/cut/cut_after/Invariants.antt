use Rattle.std.proofs.Common.{◌≡◌, ◌≤◌, length, take}
use Rattle.rj_csv_io.specs.Cuts.{place_after}
use Rattle.rj_csv_io.specs.declared.place.ReaderPlace.TheVariants as place
use Rattle.rj_csv_io.proofs.cut.cut_after.Given as goal

abbrev pub invariant-loop-turn : goal.invariant-loop-turn
invariant-loop-turn l = record {
  within : l.at ≤ length l.text;
  place : l.place ≡ place_after l.byte place.Fresh (take l.at l.text);
}
