use Rattle.std.proofs.Common.{◌≡◌, List, ℕ, [], length}
use Rattle.csv.specs.Records.{fields_of}
use Rattle.rj_csv_io.specs.Written.{HasWritten}
use Rattle.rj_shards.proofs.TextFacts.{IsKeptTo}
use Rattle.rj_shards.proofs.merge.fields.Fields.write.Given as goal

abbrev pub invariant-loop-i : goal.invariant-loop-i
invariant-loop-i l = record {
  written : (d : ℕ) (text : List ℕ) → HasWritten d l.fn.writer text [] → (kept : List (List ℕ)) × IsKeptTo l.whole.columns l.i (fields_of l.whole.fields) kept × HasWritten d l.writer text kept;
  end : l.i-end ≡ length (fields_of l.whole.fields);
}
