use Rattle.std.proofs.Common.{◌≡◌, ◌∙◌, ◌++◌, [], sym, ap, subst, append_assoc, arith}
use Rattle.std.proofs.lemmas.List.{append-nil}
use Rattle.rj_csv_io.specs.Shown.{range_text}
use Rattle.rj_csv_io.specs.Written.{HasWritten}
use Rattle.rj_csv_io.proofs.RangeFacts.{range-none, range-join}
use Rattle.rj_csv_io.proofs.range.add_blocks.Goals as goal

pub loop-row-init : goal.loop-row-init
loop-row-init g c = record {
  written =
      let none = range-none c.args.format.now.delimiter c.args.format.now.null.now (g.S.RowSource.contents c.args.source.now) c.args.from in
      subst (λ t. HasWritten c.args.format.now.delimiter c.open_text-writer.result t []) (sym (ap (λ t. c.args.text.items ++ t) none ∙ append-nil c.args.text.items)) c.open_text-writer.ensures;
  low = omega arith;
  high = c.requires.order;
}

pub loop-row-preserved : goal.loop-row-preserved
loop-row-preserved g c =
    let rows = g.S.RowSource.contents c.args.source.now in
    let text = c.args.text.items in
    let d = c.args.format.now.delimiter in
    let null = c.args.format.now.null.now in
    let now = c.in_ok-write_block.ensures d (text ++ range_text d null rows c.args.from c.loop-row.row) c.loop-row.invariant.written in
    let next : c.next_block.new.block.from ≡ c.loop-row.row = c.in_ok-next_block.ensures.from in
    let here = rw next at now in
    let more = range-join d null rows c.args.from c.loop-row.row c.next_block.new.block.to c.loop-row.invariant.low (omega (arith, c.in_ok-next_block.ensures.to)) in
    record {
      written = subst (λ t. HasWritten d c.write_block.new.writer t []) (append_assoc text (range_text d null rows c.args.from c.loop-row.row) _ ∙ ap (λ t. text ++ t) more) here;
      low = omega (arith, c.loop-row.invariant.low, c.in_ok-next_block.ensures.to);
      high = c.in_ok-next_block.ensures.end;
    }

pub returns : goal.returns
returns g c =
    let rows = g.S.RowSource.contents c.args.source.now in
    let text = c.args.text.items in
    let d = c.args.format.now.delimiter in
    let null = c.args.format.now.null.now in
    let all : c.loop-row.row ≡ c.args.to = omega (arith, c.loop-row.invariant.high, c.loop-row-test.false) in
    let written = subst (λ to. HasWritten d c.loop-row.writer (text ++ range_text d null rows c.args.from to) []) all c.loop-row.invariant.written in
    c.close_text.ensures d (text ++ range_text d null rows c.args.from c.args.to) written
