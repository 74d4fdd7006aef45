use Rattle.std.proofs.Common.{◌≡◌, drop, length}
use Rattle.rj_csv_io.specs.StrictReading.{config_of}
use Rattle.rj_csv_io.specs.NameEnds.{behind_first, from_end, state_of}
use Rattle.rj_csv_io.proofs.names.line_end.first_end.Given as goal

abbrev pub invariant-loop-i : goal.invariant-loop-i
invariant-loop-i l = record {
  told : from_end (config_of l.byte) (state_of l.place) (drop l.i l.text) ≡ behind_first l.byte l.text;
  end : l.i-end ≡ length l.text;
  same : l.byte ≡ l.fn.delimiter;
}
