use Rattle.std.proofs.Common.{◌≡◌, ◌<◌, ◌≤◌, ◌++◌, length, map, max}
use Rattle.csv.specs.Reading.{strip_bom}
use Rattle.rj_csv_io.specs.Cuts.{records_in, records_in_all}
use Rattle.rj_csv_io.proofs.cut.cut_text.Given as goal

abbrev pub invariant-loop-k : goal.invariant-loop-k
invariant-loop-k l = record {
  few : length l.parts.items < l._k;
  within : l._k ≤ max 1 l.count;
  unmarked : strip_bom l.rest ≡ l.rest;
  records : records_in_all l.delimiter (map (λ p. p.now) l.parts.items) ++ records_in l.delimiter l.rest ≡ records_in l.delimiter l.fn.text;
}
