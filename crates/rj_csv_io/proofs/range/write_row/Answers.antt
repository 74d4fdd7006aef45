use Rattle.std.proofs.Common.{◌≡◌, ◌∙◌, ◌<◌, ◌≤◌, ◌+◌, ◌-◌, ◌^◌, [], map, take, length, refl, sym, ap, subst, arith, rules}
use Rattle.std.specs.Prelude.{slice_index_or}
use Rattle.std.proofs.lemmas.List.{length-map, length-take}
use Rattle.rj_columns.specs.Contents.{content_of}
use Rattle.rj_csv_io.specs.Shown.{shown}
use Rattle.rj_csv_io.specs.Written.{HasWritten}
use Rattle.rj_csv_io.proofs.BlockFacts.{place, placed, row-more, offset-none, offset-more}
use Rattle.rj_csv_io.proofs.range.write_row.Goals as goal

pub loop-col-init : goal.loop-col-init
loop-col-init g c = record {
  written = λ d text h. h;
  end = c.columns-col-end.ensures.count;
  base = sym (offset-none (c.args.block.now.to - c.args.block.now.from));
  wide = c.columns-col-end.ensures.wide c.args.row [] (omega (arith, c.requires.holds.inside, c.requires.to));
}

pub index-requires : goal.index-requires
index-requires g c =
    let inside : c.loop-col._col < g.S.RowSource.width c.args.source.now = omega (arith, c.loop-col-test.true, c.columns-col-end.ensures.count) in
    let p = place (g.S.RowSource.contents c.args.source.now) (g.S.RowSource.width c.args.source.now) c.args.row c.loop-col._col c.args.block.now c.requires.holds c.requires.from c.requires.to inside in
    let low : c.loop-col.base + (c.args.row - c.args.block.now.from) < length c.args.block.now.cells.items = rw c.loop-col.invariant.base p.0 in
    search rules

pub overflow_add-base : goal.overflow_add-base
overflow_add-base g c =
    let inside : c.loop-col._col < g.S.RowSource.width c.args.source.now = omega (arith, c.loop-col-test.true, c.columns-col-end.ensures.count) in
    let p = place (g.S.RowSource.contents c.args.source.now) (g.S.RowSource.width c.args.source.now) c.args.row c.loop-col._col c.args.block.now c.requires.holds c.requires.from c.requires.to inside in
    let low : c.loop-col.base + (c.args.row - c.args.block.now.from) < length c.args.block.now.cells.items = rw c.loop-col.invariant.base p.0 in
    search rules

pub overflow_add-base-in-loop-col : goal.overflow_add-base-in-loop-col
overflow_add-base-in-loop-col g c =
    let inside : c.loop-col._col < g.S.RowSource.width c.args.source.now = omega (arith, c.loop-col-test.true, c.columns-col-end.ensures.count) in
    let p = place (g.S.RowSource.contents c.args.source.now) (g.S.RowSource.width c.args.source.now) c.args.row c.loop-col._col c.args.block.now c.requires.holds c.requires.from c.requires.to inside in
    let low : c.loop-col.base + (c.args.block.now.to - c.args.block.now.from) ≤ length c.args.block.now.cells.items = rw c.loop-col.invariant.base p.1 in
    search rules

pub loop-col-preserved : goal.loop-col-preserved
loop-col-preserved g c =
    let row = slice_index_or (g.S.RowSource.contents c.args.source.now) c.args.row [] in
    let inside : c.loop-col._col < g.S.RowSource.width c.args.source.now = omega (arith, c.loop-col-test.true, c.columns-col-end.ensures.count) in
    let at : c.loop-col._col < length row = omega (arith, inside, c.loop-col.invariant.wide) in
    let cell = placed (g.S.RowSource.contents c.args.source.now) (g.S.RowSource.width c.args.source.now) c.args.row c.loop-col._col c.args.block.now
    (c.loop-col.base + (c.args.row - c.args.block.now.from)) c.index.result.now c.requires.holds c.requires.from c.requires.to inside
    (ap (λ b. b + (c.args.row - c.args.block.now.from)) c.loop-col.invariant.base) c.index.ensures in
    let fields = map (shown c.args.null.now) (take c.loop-col._col row) in
    let size : length fields ≡ length (take c.loop-col._col row) = length-map (take c.loop-col._col row) (shown c.args.null.now) in
    let taken = length-take c.loop-col._col row in
    let bound : c.loop-col._col < 2 ^ 64 - 1 = search rules in
    let room : length fields < 2 ^ 64 - 1 = omega arith in
    record {
      written = λ d text h.
          let now = c.in_ok-write_cell.ensures d text fields room (c.loop-col.invariant.written d text h) in
          subst (λ f. HasWritten d c.write_cell.new.writer text f) (row-more c.args.null.now row c.loop-col._col fields _ (content_of c.index.result.now) at refl cell refl) now;
      end = c.loop-col.invariant.end;
      base = ap (λ b. b + (c.args.block.now.to - c.args.block.now.from)) c.loop-col.invariant.base ∙ sym (offset-more (c.args.block.now.to - c.args.block.now.from) c.loop-col._col);
      wide = c.loop-col.invariant.wide;
    }
