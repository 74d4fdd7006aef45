use Rattle.std.proofs.Common.{◌≡◌, ◌+◌, ◌-◌, ◌*◌, map, min}
use Rattle.std.specs.List.{concat}
use Rattle.rj_csv_io.specs.Shown.{range_text}
use Rattle.rj_csv_io.proofs.range.texts_of_range.Given as goal

abbrev pub invariant-loop-text : goal.invariant-loop-text
invariant-loop-text g l = record {
  texts : concat (map (λ t. t.items) l.texts.items) ≡ range_text l.format.delimiter l.format.null.now (g.S.RowSource.contents l.source) l.from l.row;
  row : l.row ≡ l.from + min (l.to - l.from) (4096 * l._text);
}
