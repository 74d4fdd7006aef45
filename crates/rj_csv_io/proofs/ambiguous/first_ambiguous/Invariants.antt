use Rattle.std.proofs.Common.{◌≡◌, ◌≤◌, ◌<◌, ◌-◌, ℕ, length}
use Rattle.rj_csv_io.specs.Ambiguous.{IsClearRow}
use Rattle.rj_csv_io.proofs.ambiguous.first_ambiguous.Given as goal

abbrev pub invariant-loop-row : goal.invariant-loop-row
invariant-loop-row g l = record {
  clear : (r : ℕ) → r < l.row → IsClearRow l.null (g.S.RowSource.contents l.source) r;
  end : l.end ≡ length (g.S.RowSource.contents l.source);
  low : l.row ≤ l.end;
}

abbrev pub decreases-loop-row : goal.decreases-loop-row
decreases-loop-row g l = l.end - l.row
