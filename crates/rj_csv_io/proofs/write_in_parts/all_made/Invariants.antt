use Rattle.std.proofs.Common.{◌≡◌, length, map, drop}
use Rattle.std.specs.List.{concat}
use Rattle.rj_csv_io.specs.Internal.RowParts.{part_start}
use Rattle.rj_csv_io.specs.Shown.{range_text}
use Rattle.rj_csv_io.proofs.write_in_parts.all_made.Given as goal

abbrev pub invariant-loop-part : goal.invariant-loop-part
invariant-loop-part g l = record {
  left : l.made.items ≡ drop l._part l.fn.made.items;
  end : l._part-end ≡ length l.fn.made.items;
  done : concat (map (λ t. t.items) l.texts.items) ≡ range_text l.format.delimiter l.format.null.now (g.S.RowSource.contents l.source) 0 (part_start (length (g.S.RowSource.contents l.source)) l.parts l._part);
}
