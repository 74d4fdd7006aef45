use Rattle.std.proofs.Common.{◌∙◌, ◌<◌, ◌≤◌, ◌++◌, [], length, refl, sym, ap, subst, append_assoc, arith}
use Rattle.std.proofs.lemmas.List.{append-nil}
use Rattle.rj_csv_io.specs.Shown.{range_text}
use Rattle.rj_csv_io.specs.Written.{HasWritten}
use Rattle.rj_csv_io.proofs.RangeFacts.{range-none, range-more}
use Rattle.rj_csv_io.proofs.range.write_block.Goals as goal

pub loop-row-init : goal.loop-row-init
loop-row-init g c = record {
  written = λ d text h.
      let none = range-none d c.args.null.now (g.S.RowSource.contents c.args.source.now) c.args.block.now.from in
      subst (λ t. HasWritten d c.args.writer.now t []) (sym (ap (λ t. text ++ t) none ∙ append-nil text)) h;
  end = refl;
}

pub loop-row-preserved : goal.loop-row-preserved
loop-row-preserved g c =
    let rows = g.S.RowSource.contents c.args.source.now in
    let low : c.args.block.now.from ≤ c.loop-row.row = omega (arith, c.requires.order) in
    let inside : c.loop-row.row < length rows = omega (arith, c.loop-row.invariant.end, c.loop-row-test.true, c.requires.inside) in
    record {
      written = λ d text h.
          let now = c.in_ok-write_row.ensures d (text ++ range_text d c.args.null.now rows c.args.block.now.from c.loop-row.row) (c.loop-row.invariant.written d text h) in
          let more = range-more d c.args.null.now rows c.args.block.now.from c.loop-row.row low inside in
          subst (λ t. HasWritten d c.write_row.new.writer t []) (append_assoc text (range_text d c.args.null.now rows c.args.block.now.from c.loop-row.row) _ ∙ ap (λ t. text ++ t) (sym more)) now;
      end = c.loop-row.invariant.end;
    }
