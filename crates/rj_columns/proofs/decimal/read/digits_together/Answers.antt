use Rattle.std.proofs.Common.{arith}
use Rattle.rj_columns.proofs.NumberSizes.{first-room, second-room, together, together-long, together-none}
use Rattle.rj_columns.proofs.decimal.read.digits_together.Goals as goal

pub returns-then-first-after : goal.returns-then-first-after
returns-then-first-after c =
    let first = c.without_zeros-first.ensures in
    together-long c.args.before.now c.without_zeros-first.result.now c.args.after.now first.digits first.value first.first c.requires (omega arith)

pub digits_after-requires : goal.digits_after-requires
digits_after-requires c = first-room c.without_zeros-first.result.now (omega arith)

pub returns-in_default : goal.returns-in_default
returns-in_default c = together-none c.args.before.now c.without_zeros-first.result.now c.args.after.now c.without_zeros-first.ensures.digits c.in_default.ensures

pub digits_after-requires-2 : goal.digits_after-requires-2
digits_after-requires-2 c = second-room c.without_zeros-first.result.now c.args.after.now c.in-Some.value c.in-Some.ensures.0 c.in-Some.ensures.1 (omega arith)

pub returns : goal.returns
returns c =
    let first = c.without_zeros-first.ensures in
    together c.args.before.now c.without_zeros-first.result.now c.args.after.now c.in-Some.value c.digits_after-2.result first.digits first.value c.in-Some.ensures.0 c.in-Some.ensures.1
    (second-room c.without_zeros-first.result.now c.args.after.now c.in-Some.value c.in-Some.ensures.0 c.in-Some.ensures.1 (omega arith)) c.digits_after-2.ensures
