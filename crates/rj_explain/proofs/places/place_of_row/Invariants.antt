use Rattle.std.proofs.Common.{◌≤◌, length}
use Rattle.rj_explain.specs.Places.{StandsAt}
use Rattle.rj_explain.proofs.places.place_of_row.Given as goal

abbrev pub invariant-loop-above : goal.invariant-loop-above
invariant-loop-above l = record {
  within : l.at ≤ length l.text;
  rows : l._above ≤ l.at;
  stands : StandsAt l.delimiter l.text l._above l.at;
}
