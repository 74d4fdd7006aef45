use Rattle.std.proofs.Common.{◌≡◌, ◌∙◌, ◌+◌, ◌++◌, ap, length, sym, arith}
use Rattle.rj_csv_io.specs.Shown.{range_text}
use Rattle.rj_csv_io.proofs.RangeFacts.{range-none, range-join, range-whole}
use Rattle.rj_csv_io.proofs.RowPartFacts.{concat-more}
use Rattle.rj_csv_io.proofs.ends.texts_with_ends.Goals as goal

pub loop-row-init : goal.loop-row-init
loop-row-init g c = record {
  texts = λ rows h. rw c.new-texts.ensures.items (sym (range-none c.args.format.now.delimiter c.args.format.now.null.now rows 0));
  high = omega arith;
}

pub loop-row-preserved : goal.loop-row-preserved
loop-row-preserved g c =
    let d = c.args.format.now.delimiter in
    let null = c.args.format.now.null.now in
    let row = c.loop-row.row in
    let end = row + c.min.result in
    let text = c.in_ok-text_with_ends.field-0 in
    let more = concat-more c.loop-row.texts.items text in
    record {
      texts = λ rows h.
          let here : text.items ≡ range_text d null rows row end = c.in_ok-text_with_ends.ensures rows h in
          rw (c.in_ok-push.ensures.items, more) ((λ t. c.loop-row.invariant.texts rows h t ++ here t) ∙ range-join d null rows 0 row end (omega arith) (omega arith));
      high = omega arith;
    }

pub returns : goal.returns
returns g c = λ rows h.
    let fronts = g.S.RowSource.contents c.args.fronts.now in
    let d = c.args.format.now.delimiter in
    let null = c.args.format.now.null.now in
    let all : c.loop-row.row ≡ length rows = omega (arith, h.count, c.rows-to.ensures, c.loop-row.invariant.high, c.loop-row-test.false) in
    c.loop-row.invariant.texts rows h ∙ (ap (range_text d null rows 0) all ∙ range-whole d null rows)
