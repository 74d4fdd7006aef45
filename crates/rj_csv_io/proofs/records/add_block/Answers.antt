use Rattle.std.proofs.Common.{◌≡◌, ◌≤◌, ◌<◌, ◌∙◌, ◌++◌, ◌∷◌, [], ap, append_assoc, arith, length, sym}
use Rattle.std.specs.Prelude.{slice_index_or}
use Rattle.csv.specs.Writing.{writer_under}
use Rattle.rj_csv_io.specs.Ends.{record_of, records_between}
use Rattle.rj_csv_io.proofs.EndFacts.{records-more, written-since}
use Rattle.rj_csv_io.proofs.records.add_block.Goals as goal

pub loop-row-preserved : goal.loop-row-preserved
loop-row-preserved g c =
    let rows = g.S.RowSource.contents c.args.source.now in
    let null = c.args.null.now in
    let row = c.loop-row.row in
    let from = c.args.block.now.from in
    let low : from ≤ row = omega (arith, c.requires.order) in
    let inside : row < length rows = omega (arith, c.loop-row.invariant.end, c.loop-row-test.true, c.requires.inside) in
    let before = (writer_under c.loop-row.writer).items in
    let start : length c.as_slice-start.result.now ≡ length before = ap length c.as_slice-start.ensures.value ∙ ap (λ v. length v.items) c.get_ref.ensures in
    record {
      settled = λ d h.
          let wrote = c.in_ok-write_row.ensures d before (c.loop-row.invariant.settled d h) in
          c.in_ok-add_written.ensures.settled d (before ++ record_of d null (slice_index_or rows row [])) wrote;
      texts = λ d h.
          let own = record_of d null (slice_index_or rows row []) in
          let wrote = c.in_ok-write_row.ensures d before (c.loop-row.invariant.settled d h) in
          c.in_ok-add_written.ensures.texts d (before ++ own) wrote
          ∙ ((λ t. c.loop-row.invariant.texts d h t ++ written-since (length c.as_slice-start.result.now) before own start t ∷ [])
          ∙ (append_assoc c.args.texts.now (records_between d null rows from row) (own ∷ []) ∙ ap (λ r. c.args.texts.now ++ r) (sym (records-more d null rows from row low inside))));
      end = c.loop-row.invariant.end;
    }
