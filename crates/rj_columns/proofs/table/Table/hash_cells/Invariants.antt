use Rattle.std.proofs.Common.{◌≤◌, ◌-◌, length}
use Rattle.rj_columns.specs.Tables.{cell_of}
use Rattle.rj_columns.proofs.HashFacts.{Taking}
use Rattle.rj_columns.proofs.table.Table.hash_cells.Given as goal

abbrev pub invariant-loop-done : goal.invariant-loop-done
invariant-loop-done g l = record {
  taking : Taking (g.H.CellHash.added l.by) (λ r. cell_of l.self r l.col) l.rows l.initial.hashes l.hashes l.done;
  inside : l.done ≤ length l.rows;
}

abbrev pub decreases-loop-done : goal.decreases-loop-done
decreases-loop-done g l = length l.rows - l.done
