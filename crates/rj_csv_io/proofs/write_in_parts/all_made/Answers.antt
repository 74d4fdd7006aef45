use Rattle.std.proofs.Common.{◌≡◌, ◌∙◌, ◌<◌, ◌≤◌, ◌+◌, Ok, arith, sym, ap, refl, length, drop, rules}
use Rattle.std.proofs.lemmas.List.{drop-drop}
use Rattle.rj_csv_io.specs.Shown.{range_text}
use Rattle.rj_csv_io.specs.Internal.RowParts.{part_start}
use Rattle.rj_csv_io.proofs.RangeFacts.{range-none, range-join, range-all}
use Rattle.rj_csv_io.proofs.RowPartFacts.{concat-joined, head-at, start-none, start-order, start-past}
use Rattle.rj_csv_io.proofs.write_in_parts.all_made.Goals as goal

pub loop-part-init : goal.loop-part-init
loop-part-init g c = record {
  left = refl;
  end = search rules;
  done =
      let rows = g.S.RowSource.contents c.args.source.now in
      let none : range_text c.args.format.now.delimiter c.args.format.now.null.now rows 0 (part_start (length rows) c.args.parts 0) ≡ range_text c.args.format.now.delimiter c.args.format.now.null.now rows 0 0 =
      ap (λ n. range_text c.args.format.now.delimiter c.args.format.now.null.now rows 0 n) (start-none (length rows) c.args.parts c.requires.some) in
      rw c.new-texts.ensures.items (sym (none ∙ range-none c.args.format.now.delimiter c.args.format.now.null.now rows 0));
}

pub loop-part-preserved : goal.loop-part-preserved
loop-part-preserved g c =
    let rows = g.S.RowSource.contents c.args.source.now in
    let h : c.loop-part._part < length c.args.made.items = omega (arith, c.loop-part-test.true, c.loop-part.invariant.end) in
    let here = head-at c.args.made.items c.loop-part.made.items c.loop-part._part (Ok c.in_ok-more.more) c.loop-part.invariant.left c.in_ok-more.ensures.value in
    let is = rw here at (c.requires.parts c.loop-part._part (Ok c.in_ok-more.more) h) in
    let more = concat-joined c.loop-part.texts.items c.in_ok-more.more.items in
    let order = start-order (length rows) c.args.parts c.loop-part._part c.requires.some in
    record {
      left = c.in_ok-more.ensures.items ∙ (ap (λ l. drop 1 l) c.loop-part.invariant.left ∙ drop-drop 1 c.loop-part._part c.args.made.items);
      end = c.loop-part.invariant.end;
      done = rw (c.in_ok-append.ensures.items, more, c.loop-part.invariant.done, is)
          (range-join c.args.format.now.delimiter c.args.format.now.null.now rows 0 (part_start (length rows) c.args.parts c.loop-part._part) (part_start (length rows) c.args.parts (c.loop-part._part + 1)) (omega arith) order);
    }

pub returns : goal.returns
returns g c =
    let rows = g.S.RowSource.contents c.args.source.now in
    let last : c.args.parts ≤ c.loop-part._part = omega (arith, c.loop-part.invariant.end, c.loop-part-test.false, c.requires.enough) in
    let past = start-past (length rows) c.args.parts c.loop-part._part c.requires.some last in
    c.loop-part.invariant.done ∙ range-all c.args.format.now.delimiter c.args.format.now.null.now rows (part_start (length rows) c.args.parts c.loop-part._part) past
