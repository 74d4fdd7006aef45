use Rattle.std.proofs.Common.{arith}
use Rattle.rj_columns.proofs.NumberTexts.{whole-room}
use Rattle.rj_columns.proofs.decimal.text.put_text.Goals as goal

pub put_wide-start-requires-clause-room : goal.put_wide-start-requires-clause-room
put_wide-start-requires-clause-room c = rw c.put_fraction-point.ensures.whole (whole-room c.unsigned_abs.result c.args.scale c.put_fraction-point.result.0 (omega arith) (omega arith) (omega arith))
