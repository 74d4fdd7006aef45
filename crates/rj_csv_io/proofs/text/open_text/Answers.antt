use Rattle.std.proofs.Common.{refl}
use Rattle.std.proofs.lemmas.List.{append-nil}
use Rattle.rj_csv_io.proofs.WriteFacts.{nothing-written}
use Rattle.rj_csv_io.proofs.text.open_text.Goals as goal

pub returns : goal.returns
returns c =
    let made = c.from_writer.ensures in
    nothing-written c.args.delimiter c.from_writer.result c.args.text.items (rw (made.cfg, c.delimiter.ensures, c.new.ensures, c.byte.ensures.value) refl) made.fields made.wrote (rw (made.wtr, made.empty, append-nil) refl)
