use Rattle.std.proofs.Common.{[], refl}
use Rattle.rj_csv_io.proofs.WriteFacts.{nothing-written}
use Rattle.rj_shards.proofs.merge.block.empty_block.Goals as goal

pub returns : goal.returns
returns c =
    let made = c.from_writer.ensures in
    nothing-written c.args.delimiter c.from_writer.result [] (rw (made.cfg, c.delimiter.ensures, c.new.ensures, c.byte.ensures.value) refl) made.fields made.wrote (rw (made.wtr, made.empty, c.new-2.ensures.items) refl)
