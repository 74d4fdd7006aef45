use Rattle.std.proofs.Common.{◌≡◌, ◌-◌, ◌<◌, ℕ, [], length, false}
use Rattle.std.specs.Prelude.{slice_index_or}
use Rattle.rj_columns.specs.Tables.{cell_in}
use Rattle.rj_csv_io.specs.Ambiguous.{is_ambiguous}
use Rattle.rj_csv_io.specs.Internal.Blocks.{offset}
use Rattle.rj_csv_io.proofs.ambiguous.first_in_row.Given as goal

abbrev pub invariant-loop-col : goal.invariant-loop-col
invariant-loop-col g l = record {
  clear : (c : ℕ) → c < l.col → is_ambiguous l.null (cell_in (g.S.RowSource.contents l.source) l.row c) ≡ false;
  end : l.col-end ≡ g.S.RowSource.width l.source;
  base : l.base ≡ offset (l.block.to - l.block.from) l.col;
  wide : length (slice_index_or (g.S.RowSource.contents l.source) l.row []) ≡ g.S.RowSource.width l.source;
}
