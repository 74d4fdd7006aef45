use Rattle.std.proofs.Common.{◌+◌, ◌∙◌, ◌++◌, ap, arith}
use Rattle.rj_csv_io.specs.Ends.{records_between}
use Rattle.rj_csv_io.proofs.EndFacts.{records-join}
use Rattle.rj_csv_io.proofs.records.row_texts.Goals as goal

pub loop-row-preserved : goal.loop-row-preserved
loop-row-preserved g c =
    let rows = g.S.RowSource.contents c.args.source.now in
    let d = c.args.format.now.delimiter in
    let null = c.args.format.now.null.now in
    let row = c.loop-row.row in
    let end = row + c.min.result in
    let all = records-join d null rows 0 row end (omega arith) (omega arith) in
    record {
      texts = c.in_ok-add_texts.ensures ∙ (ap (λ t. t ++ records_between d null rows row end) c.loop-row.invariant.texts ∙ all);
      high = omega arith;
    }
