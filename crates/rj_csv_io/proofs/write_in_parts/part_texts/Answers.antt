use Rattle.std.proofs.Common.{◌+◌, length, sym}
use Rattle.rj_csv_io.specs.Internal.RowParts.{part_start}
use Rattle.rj_csv_io.proofs.RangeFacts.{range-past}
use Rattle.rj_csv_io.proofs.RowPartFacts.{start-past}
use Rattle.rj_csv_io.proofs.write_in_parts.part_texts.Goals as goal

pub returns-then-part-parts : goal.returns-then-part-parts
returns-then-part-parts g c =
    let rows = g.S.RowSource.contents c.args.source.now in
    let d = c.args.format.now.delimiter in
    let null = c.args.format.now.null.now in
    let past = start-past (length rows) c.args.parts c.args.part c.requires c.if-part-parts.true in
    rw c.new.ensures.items (sym (range-past d null rows (part_start (length rows) c.args.parts c.args.part) (part_start (length rows) c.args.parts (c.args.part + 1)) past))
