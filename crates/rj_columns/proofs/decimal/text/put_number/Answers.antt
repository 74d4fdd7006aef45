use Rattle.std.proofs.Common.{◌+◌, ◌-◌, ◌%◌, refl, ℕ, arith}
use Rattle.std.proofs.Math.ListN.{length-set}
use Rattle.rj_columns.proofs.NumberTexts.{decimal-left, digits-left, more-room, tenth-room, written}
use Rattle.rj_columns.proofs.decimal.text.put_number.Goals as goal

pub loop-rest-init : goal.loop-rest-init
loop-rest-init c =
    let end = c.args.end in
    record {
      text = written _ _ _ end (end - 1) (end - 1) (48 + c.args.number % 10) c.args.bytes.now (omega arith) refl (omega arith) (decimal-left c.args.number (omega arith)) refl;
      some = omega arith;
      inside = omega arith;
      room = tenth-room c.args.number (end - 1) (end - 1 - 1) (omega arith) c.requires.room;
    }

pub loop-rest-preserved : goal.loop-rest-preserved
loop-rest-preserved c =
    let at = c.loop-rest.at in
    let two = more-room c.loop-rest.rest (at - 1) c.loop-rest-test.true c.loop-rest.invariant.room in
    record {
      text = written _ _ _ at (at - 1) (at - 1) (48 + c.loop-rest.rest % 10) c.loop-rest.bytes (omega arith) refl
          (omega (arith, length-set {A = ℕ})) (digits-left c.loop-rest.rest c.loop-rest-test.true (omega arith)) c.loop-rest.invariant.text;
      some = omega arith;
      inside = omega arith;
      room = tenth-room c.loop-rest.rest (at - 1) (at - 1 - 1) (omega arith) c.loop-rest.invariant.room;
    }
