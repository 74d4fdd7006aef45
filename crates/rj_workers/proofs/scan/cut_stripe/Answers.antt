use Rattle.std.proofs.Common.{◌+◌, ◌<◌, ℕ, List, arith, ◌∙◌}
use Rattle.rj_exchange.specs.declared.boxes.Exchange.{Exchange}
use Rattle.rj_workers.specs.declared.post.Sending.{Sending}
use Rattle.rj_workers.specs.Posts.{Due}
use Rattle.rj_workers.proofs.Sends.{planned_push, range_push, cut_more, cut_kept}
use Rattle.rj_workers.proofs.scan.cut_stripe.Goals as goal

pub loop-partition-preserved : goal.loop-partition-preserved
loop-partition-preserved g c =
    let v = c.loop-partition.invariant in let e : Exchange = c.args.shared.now.exchange.now in let due : Due = g.J.Job.due c.args.shared.now.job.now in let p : ℕ = c.loop-partition.partition in
    let block : ℕ = c.args.shared.now.settings.block in let one : ℕ = c.args.stripe in let two : ℕ = c.args.shared.now.settings.workers + c.args.stripe in
    let lt : p < e.partitions = omega (arith, c.loop-partition-test.true, c.partitions-partition-end.ensures) in
    let left = c.part-left_rows.ensures ∙ (c.requires.lefts.each p lt).same in
    let right = c.part-right_rows.ensures ∙ (c.requires.rights.each p lt).same in
    let a = c.in_ok-cut_part.ensures in let b = c.in_ok-cut_part-2.ensures in
    let was : List Sending = c.loop-partition.lists.items in let mid : List Sending = c.cut_part.new.lists.items in let new : List Sending = c.cut_part-in-loop-partition.new.lists.items in
    let rows : List ℕ = c.part-left_rows.result.now in let others : List ℕ = c.part-right_rows.result.now in record {
      planned = planned_push due block two p others mid new b.0 b.1 b.2 right (planned_push due block one p rows was mid a.0 a.1 a.2 left v.planned);
      range = range_push due block two p others mid new b.0 b.1 b.2 right e lt (range_push due block one p rows was mid a.0 a.1 a.2 left e lt v.range);
      left = cut_kept due block one (p + 1) mid new b.0 b.1 (cut_more due block one p rows was mid a.0 a.1 a.2 left v.left);
      right = cut_more due block two p others mid new b.0 b.1 b.2 right (cut_kept due block two p was mid a.0 a.1 v.right);
    }

pub returns : goal.returns
returns g c =
    let v = c.loop-partition.invariant in let t = c.loop-partition-test.false in let n = c.partitions-partition-end.ensures in record {
      planned = v.planned;
      range = v.range;
      left = λ p lt. v.left p (omega arith);
      right = λ p lt. v.right p (omega arith);
    }
