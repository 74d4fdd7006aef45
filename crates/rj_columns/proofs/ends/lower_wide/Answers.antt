use Rattle.std.proofs.Common.{arith}
use Rattle.rj_columns.proofs.PackFacts.{lowered-each}
use Rattle.rj_columns.proofs.ends.lower_wide.Goals as goal

pub returns : goal.returns
returns c =
    lowered-each c.args.ends.now.items c.loop-i.ends.items c.args.from c.args.by c.requires c.loop-i.invariant.size c.loop-i.invariant.before
    (λ k low high. c.loop-i.invariant.done k low (omega (arith, c.loop-i-test.false, c.loop-i.invariant.end)))
