use Rattle.std.proofs.Common.{◌≡◌, ◌≤◌, length, take}
use Rattle.rj_csv_io.specs.Cuts.{place_after}
use Rattle.rj_csv_io.proofs.place.scan.Given as goal

abbrev pub invariant-loop-turn : goal.invariant-loop-turn
invariant-loop-turn l = record {
  within : l.at ≤ length l.text;
  turn : l._turn ≤ l.at;
  end : l._turn-end ≡ length l.text;
  place : l.place ≡ place_after l.delimiter l.fn.start (take l.at l.text);
}
