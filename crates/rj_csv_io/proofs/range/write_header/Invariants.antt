use Rattle.std.proofs.Common.{◌≡◌, List, ℕ, [], map, take, length}
use Rattle.rj_csv_io.specs.Written.{HasWritten}
use Rattle.rj_csv_io.proofs.range.write_header.Given as goal

abbrev pub invariant-loop-i : goal.invariant-loop-i
invariant-loop-i l = record {
  written : (d : ℕ) (text : List ℕ) → HasWritten d l.fn.writer text [] → HasWritten d l.writer text (take l.i (map (λ n. n.now) l.header));
  end : l.i-end ≡ length l.header;
}
