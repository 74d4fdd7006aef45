use Rattle.std.proofs.Common.{◌≡◌, ◌≤◌, ◌++◌, length, map}
use Rattle.std.specs.List.{concat}
use Rattle.rj_csv_io.proofs.strict.parts.cut_at_lines.Given as goal

abbrev pub invariant-loop-k : goal.invariant-loop-k
invariant-loop-k l = record {
  within : length l.rest ≤ length l.fn.text;
  whole : concat (map (λ p. p.now) l.parts.items) ++ l.rest ≡ l.fn.text;
}
