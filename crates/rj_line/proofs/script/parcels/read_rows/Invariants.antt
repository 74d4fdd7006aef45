use Rattle.std.proofs.Common.{◌≡◌, length}
use Rattle.rj_line.specs.Script.{rows_of, words_of}
use Rattle.rj_line.proofs.ReadingFacts.{onto}
use Rattle.rj_line.proofs.script.parcels.read_rows.Given as goal

abbrev pub invariant-loop-word : goal.invariant-loop-word
invariant-loop-word l = rows_of (words_of l.words) ≡ onto l.rows.items (rows_of (words_of l.rest))

abbrev pub decreases-loop-word : goal.decreases-loop-word
decreases-loop-word l = length l.rest
