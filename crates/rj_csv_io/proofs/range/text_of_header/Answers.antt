use Rattle.std.proofs.Common.{[]}
use Rattle.rj_csv_io.proofs.range.text_of_header.Goals as goal

pub returns : goal.returns
returns c =
    let d = c.args.delimiter in
    let begun = rw c.new.ensures.items at c.open_text-writer.ensures in
    c.close_text.ensures d _ (c.in_ok-write_header.ensures d [] begun)
