use Rattle.std.proofs.Common.{◌≡◌, ◌∙◌, ◌++◌, ap, append_assoc, arith}
use Rattle.rj_csv_io.specs.Ends.{records_between}
use Rattle.rj_csv_io.proofs.EndFacts.{records-join}
use Rattle.rj_csv_io.proofs.records.add_texts.Goals as goal

pub loop-row-preserved : goal.loop-row-preserved
loop-row-preserved g c =
    let rows = g.S.RowSource.contents c.args.source.now in
    let d = c.args.format.now.delimiter in
    let null = c.args.format.now.null.now in
    let row = c.loop-row.row in
    let next = c.next_block.new.block in
    let at : next.from ≡ row = c.in_ok-next_block.ensures.from in
    let all = records-join d null rows c.args.from row next.to c.loop-row.invariant.low (omega (arith, c.in_ok-next_block.ensures.to)) in
    record {
      settled = c.in_ok-add_block.ensures.settled d c.loop-row.invariant.settled;
      texts = c.in_ok-add_block.ensures.texts d c.loop-row.invariant.settled
          ∙ ((λ t. c.loop-row.invariant.texts t ++ records_between d null rows (at t) next.to)
          ∙ (append_assoc c.args.texts.now (records_between d null rows c.args.from row) (records_between d null rows row next.to) ∙ ap (λ r. c.args.texts.now ++ r) all));
      low = omega (arith, c.loop-row.invariant.low, c.in_ok-next_block.ensures.to);
      high = c.in_ok-next_block.ensures.end;
    }
