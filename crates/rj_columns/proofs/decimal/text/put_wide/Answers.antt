use Rattle.std.proofs.Common.{◌+◌, ◌-◌, ◌%◌, refl, arith}
use Rattle.std.proofs.lemmas.Fmt.{decimal_step_wide}
use Rattle.rj_columns.proofs.NumberTexts.{tenth-room, two-room, written}
use Rattle.rj_columns.proofs.decimal.text.put_wide.Goals as goal

pub loop-rest-preserved : goal.loop-rest-preserved
loop-rest-preserved c =
    let at = c.loop-rest.at in
    let rest = c.loop-rest.rest in
    let two = two-room rest (at - 1) (omega arith) c.loop-rest.invariant.room in
    record {
      text = written _ _ _ at (at - 1) (at - 1) (48 + rest % 10) c.loop-rest.bytes (omega arith) refl (omega arith) (decimal_step_wide rest (omega arith) (omega arith)) c.loop-rest.invariant.text;
      some = omega arith;
      inside = omega arith;
      room = tenth-room rest (at - 1) (at - 1 - 1) (omega arith) c.loop-rest.invariant.room;
    }
