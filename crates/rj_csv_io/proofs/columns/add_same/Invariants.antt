use Rattle.std.proofs.Common.{◌≡◌, ◌<◌, ◌-◌, ◌++◌, ℕ, List, map}
use Rattle.rj_columns.specs.Contents.{Content, content_of}
use Rattle.rj_columns.specs.Tables.{cell_in, part_of}
use Rattle.rj_csv_io.proofs.columns.add_same.Given as goal

abbrev pub invariant-loop-row : goal.invariant-loop-row
invariant-loop-row l = (rows : List (List Content)) (col : ℕ) → ((row : ℕ) → row < l.to → cell_in rows row col ≡ content_of l.cell)
    → map content_of l.cells.items ≡ map content_of l.fn.cells.items ++ part_of rows col l.from (l._row - l.from)
