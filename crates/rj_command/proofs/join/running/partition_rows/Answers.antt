use Rattle.std.proofs.Common.{◌<◌, length, rules}
use Rattle.rj_command.proofs.StatisticsFacts.{counted, numbered}
use Rattle.rj_command.proofs.join.running.partition_rows.Goals as goal

pub loop-p-preserved : goal.loop-p-preserved
loop-p-preserved c =
    let more = c.in_ok-push.ensures.items in
    let lefts = c.left_sizes-lefts.result.now in
    let rights = c.right_sizes-rights.result.now in
    let left_low : c.loop-p.p < length lefts = search rules in
    let right_low : c.loop-p.p < length rights = search rules in (
      numbered (λ r. r.number) c.push.new.self.items c.loop-p.rows.items _ c.loop-p.p more (search rules) c.loop-p.invariant.0,
      counted (λ r. r.left) c.push.new.self.items c.loop-p.rows.items _ lefts c.loop-p.p left_low more (search rules) c.loop-p.invariant.1,
      counted (λ r. r.right) c.push.new.self.items c.loop-p.rows.items _ rights c.loop-p.p right_low more (search rules) c.loop-p.invariant.2,
    )
