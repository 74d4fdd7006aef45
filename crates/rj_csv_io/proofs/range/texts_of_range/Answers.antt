use Rattle.std.proofs.Common.{◌≡◌, ◌∙◌, ◌≤◌, ◌+◌, ap, sym, arith}
use Rattle.rj_csv_io.specs.Shown.{range_text}
use Rattle.rj_csv_io.proofs.RangeFacts.{range-none, range-join}
use Rattle.rj_csv_io.proofs.RowPartFacts.{concat-more}
use Rattle.rj_csv_io.proofs.range.texts_of_range.Goals as goal

pub loop-text-init : goal.loop-text-init
loop-text-init g c = record {
  texts = rw c.new-texts.ensures.items (sym (range-none c.args.format.now.delimiter c.args.format.now.null.now (g.S.RowSource.contents c.args.source.now) c.args.from));
  row = omega arith;
}

pub loop-text-preserved : goal.loop-text-preserved
loop-text-preserved g c =
    let rows = g.S.RowSource.contents c.args.source.now in
    let d = c.args.format.now.delimiter in
    let null = c.args.format.now.null.now in
    let low : c.args.from ≤ c.loop-text.row = omega arith in
    let high : c.loop-text.row ≤ c.loop-text.row + c.min.result = omega arith in
    let more = concat-more c.loop-text.texts.items c.in_ok-text.text in
    record {
      texts = rw (c.in_ok-push.ensures.items, more, c.loop-text.invariant.texts, c.in_ok-text.ensures, c.new.ensures.items)
          (range-join d null rows c.args.from c.loop-text.row (c.loop-text.row + c.min.result) low high);
      row = omega arith;
    }

pub returns : goal.returns
returns g c =
    let all : c.loop-text.row ≡ c.args.to = omega arith in
    c.loop-text.invariant.texts ∙ ap (range_text c.args.format.now.delimiter c.args.format.now.null.now (g.S.RowSource.contents c.args.source.now) c.args.from) all
