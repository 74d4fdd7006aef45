use Rattle.std.proofs.Common.{◌∙◌, sym}
use Rattle.rj_command.proofs.AlikeFacts.{key_in, told_next, untold_next}
use Rattle.rj_command.proofs.join.alike.told_keys.Goals.{then-is_text_key+in_ok-key+in_ok-push, else-is_text_key}
use Rattle.rj_command.proofs.join.alike.told_keys.Goals as goal

pub is_text_key-requires-clause-left : goal.is_text_key-requires-clause-left
is_text_key-requires-clause-left c =
    let o = c.args.operands.now in (key_in o.left.types o.right.types c.args.keys.now c.loop-k.k (0, 0) c.requires c.loop-k-test.true).0

pub is_text_key-requires-clause-right : goal.is_text_key-requires-clause-right
is_text_key-requires-clause-right c =
    let o = c.args.operands.now in (key_in o.left.types o.right.types c.args.keys.now c.loop-k.k (0, 0) c.requires c.loop-k-test.true).1

pub name-requires : goal.name-requires
name-requires c =
    let o = c.args.operands.now in (key_in o.left.types o.right.types c.args.keys.now c.loop-k.k (0, 0) c.requires c.loop-k-test.true).0

pub name-requires-then-is_text_key : goal.name-requires-then-is_text_key
name-requires-then-is_text_key c =
    let o = c.args.operands.now in (key_in o.left.types o.right.types c.args.keys.now c.loop-k.k (0, 0) c.requires c.loop-k-test.true).1

pub loop-k-preserved : goal.loop-k-preserved
loop-k-preserved c =
    let o = c.args.operands.now in
    let q = c.args.request.now in
    let keys = c.args.keys.now in
    let items = c.loop-k.told.items in
    elim c.if-is_text_key.branch [
      | then-is_text_key+in_ok-key+in_ok-push w ↦ record {
        so_far = told_next q o.left o.right keys c.loop-k.k c.loop-k-test.true items c.if-is_text_key.told.items w.in_ok-key.key
            w.name.result.now w.name-then-is_text_key.result.now (sym c.is_text_key.ensures ∙ w.if-is_text_key.true)
            w.name.ensures w.name-then-is_text_key.ensures w.in_ok-key.ensures (rw w.told-is w.in_ok-push.ensures.items)
            ∙ c.loop-k.invariant.so_far;
        end = c.loop-k.invariant.end;
      }
      | else-is_text_key w ↦ record {
        so_far = rw w.told-is (untold_next q o.left o.right keys c.loop-k.k c.loop-k-test.true items (sym c.is_text_key.ensures ∙ w.if-is_text_key.false)
            ∙ c.loop-k.invariant.so_far);
        end = c.loop-k.invariant.end;
      }
    ]
