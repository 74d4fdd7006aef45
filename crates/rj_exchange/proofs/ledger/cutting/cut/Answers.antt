use Rattle.std.proofs.Common.{◌≡◌, ◌<◌, ◌∙◌, All, length, sym, subst, arith, rules}
use Rattle.std.proofs.lemmas.Grind.{common_steps}
use Rattle.rj_exchange.specs.Cutting.{bodies, plan, IsFor}
use Rattle.rj_exchange.proofs.EngineFacts.{all_for}
use Rattle.rj_exchange.proofs.CutFacts.{cut_one, nonzero}
use Rattle.rj_exchange.proofs.ledger.cutting.cut.Goals as goal

pub loop-left-preserved : goal.loop-left-preserved
loop-left-preserved c =
    let some : 0 < length c.loop-left.left.now = nonzero c.is_empty.result (length c.loop-left.left.now) c.is_empty.ensures c.loop-left-test.true in
    record {
      plan = cut_one c.loop-left.parcels.items c.push.new.self.items _ c.args.sender c.args.partition c.loop-left.number c.args.block
          c.min-count.result c.loop-left.left.now c.split_at.result.0.now c.split_at.result.1.now c.new.result
          c.requires some c.loop-left.invariant.plan c.in_ok-push.ensures.items
          (c.new.ensures ∙ c.in_ok-from_slice.ensures.items) c.split_at.ensures.front c.split_at.ensures.back c.min-count.ensures;
      count = omega (arith, c.split_at.ensures.back_len, c.min-count.ensures, c.loop-left.invariant.count);
    }

pub returns-clause-placed : goal.returns-clause-placed
returns-clause-placed c =
    let whole : c.push-2.new.self.items ≡ plan c.args.block c.args.rows.now c.args.sender c.args.partition = first_of (search rules, grind (arith, common_steps)) in
    subst (All (IsFor c.args.sender c.args.partition)) (sym whole) (all_for c.args.sender c.args.partition 0 (bodies c.args.block c.args.rows.now))
