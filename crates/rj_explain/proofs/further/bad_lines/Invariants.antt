use Rattle.std.proofs.Common.{◌≤◌, ◌-◌, ◌++◌, List, ℕ, length}
use Rattle.std.specs.Prelude.{string_bytes}
use Rattle.rj_explain.specs.Further.{AreBadTold}
use Rattle.rj_explain.specs.Places.{StandsAt}
use Rattle.rj_explain.proofs.further.bad_lines.Given as goal

abbrev pub invariant-loop-told : goal.invariant-loop-told
invariant-loop-told l = record {
  within : l.place.at ≤ length l.column.text.now;
  rows : l.place.row ≤ l.place.at;
  stands : StandsAt l.column.delimiter l.column.text.now l.place.row l.place.at;
  told : (rest : List ℕ) → AreBadTold l.column l.place.row (19 - l._told) rest → AreBadTold l.column l.fn.from.row 19 (string_bytes l.lines ++ rest);
}
