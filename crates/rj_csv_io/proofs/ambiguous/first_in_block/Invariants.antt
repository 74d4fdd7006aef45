use Rattle.std.proofs.Common.{◌≡◌, ◌≤◌, ◌<◌, ℕ}
use Rattle.rj_csv_io.specs.Ambiguous.{IsClearRow}
use Rattle.rj_csv_io.proofs.ambiguous.first_in_block.Given as goal

abbrev pub invariant-loop-row : goal.invariant-loop-row
invariant-loop-row g l = record {
  clear : (r : ℕ) → l.block.from ≤ r → r < l.row → IsClearRow l.null (g.S.RowSource.contents l.source) r;
  end : l.row-end ≡ l.block.to;
}
