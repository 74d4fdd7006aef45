use Rattle.std.proofs.Common.{◌≡◌, ◌≤◌, length, drop}
use Rattle.rj_csv_io.specs.Internal.StrictWalk.{walk}
use Rattle.rj_csv_io.proofs.strict.clean.place_behind_text.Given as goal

abbrev pub invariant-loop-turn : goal.invariant-loop-turn
invariant-loop-turn l = record {
  within : l.at ≤ length l.text;
  turn : l._turn ≤ l.at;
  end : l._turn-end ≡ length l.text;
  walked : walk l.delimiter l.place (drop l.at l.text) ≡ walk l.delimiter l.fn.start l.text;
}
