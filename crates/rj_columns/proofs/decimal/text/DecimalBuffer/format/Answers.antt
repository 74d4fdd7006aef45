use Rattle.std.proofs.Common.{◌≡◌, ◌∙◌, ◌-◌, drop, ap, arith}
use Rattle.std.proofs.Math.Facts.{to_z-of_z}
use Rattle.std.proofs.lemmas.List.{length-drop, take_all}
use borrow.Rule.Slice.PartMut.{mid_of}
use Rattle.rj_columns.specs.NumbersWritten.{text_of}
use Rattle.rj_columns.proofs.NumbersReadBack.{read_back}
use Rattle.rj_columns.proofs.decimal.text.DecimalBuffer.format.Goals as goal

pub returns : goal.returns
returns c =
    let start = c.put_text-start.result in
    let bytes = c.put_text-start.new.bytes in
    let text : mid_of start (258 - start) bytes ≡ text_of c.args.scale c.args.units =
    take_all (258 - start) (drop start bytes) (omega (arith, length-drop start bytes))
    ∙ (c.put_text-start.ensures.text ∙ ap (text_of c.args.scale) (to_z-of_z c.ranges.units)) in
    record { text = text; back = λ p m l. read_back p c.args.scale c.args.units (mid_of start (258 - start) bytes) text m l }
