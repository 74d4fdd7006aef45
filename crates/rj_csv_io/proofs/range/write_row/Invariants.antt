use Rattle.std.proofs.Common.{◌≡◌, ◌-◌, List, ℕ, [], map, take, length}
use Rattle.std.specs.Prelude.{slice_index_or}
use Rattle.rj_csv_io.specs.Internal.Blocks.{offset}
use Rattle.rj_csv_io.specs.Shown.{shown}
use Rattle.rj_csv_io.specs.Written.{HasWritten}
use Rattle.rj_csv_io.proofs.range.write_row.Given as goal

abbrev pub invariant-loop-col : goal.invariant-loop-col
invariant-loop-col g l = record {
  written : (d : ℕ) (text : List ℕ) → HasWritten d l.fn.writer text [] → HasWritten d l.writer text (map (shown l.null) (take l._col (slice_index_or (g.S.RowSource.contents l.source) l.row [])));
  end : l._col-end ≡ g.S.RowSource.width l.source;
  base : l.base ≡ offset (l.block.to - l.block.from) l._col;
  wide : length (slice_index_or (g.S.RowSource.contents l.source) l.row []) ≡ g.S.RowSource.width l.source;
}
