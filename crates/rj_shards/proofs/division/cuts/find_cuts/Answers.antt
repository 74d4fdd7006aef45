use Rattle.std.proofs.Common.{rules, ◌∙◌, refl, arith}
use Rattle.rj_shards.proofs.RangeFacts.{cutting-none}
use Rattle.rj_shards.proofs.LenientFacts.{if-some}
use Rattle.rj_shards.proofs.division.cuts.find_cuts.Goals as goal

pub loop-turn-init : goal.loop-turn-init
loop-turn-init g c = record {
  cutting = λ text e. cutting-none c.args.delimiter c.args.size c.args.block text (g.I.Input.tells c.args.input.now) _ e c.new.ensures.items refl refl c.new-2.ensures.items refl;
  reads = refl;
}

pub returns-in-Ok-true-clause-cuts : goal.returns-in-Ok-true-clause-cuts
returns-in-Ok-true-clause-cuts g c =
    if-some (g.I.Input.tells c.args.input.now) _ (λ text e. c.in-Ok-true.ensures.last (search rules) text c.loop-turn._turn (c.loop-turn.invariant.cutting text e))

pub returns-in-Err-clause-fault : goal.returns-in-Err-clause-fault
returns-in-Err-clause-fault g c =
    if-some (g.I.Input.tells c.args.input.now) _ (λ text e. c.in-Err.ensures.fault text c.loop-turn._turn (c.loop-turn.invariant.cutting text e))

pub loop-turn-preserved : goal.loop-turn-preserved
loop-turn-preserved g c = record {
  cutting = λ text e. c.in-Ok-false.ensures.more (search rules) text c.loop-turn._turn (c.loop-turn.invariant.cutting text e);
  reads = c.in-Ok-false.ensures.reads ∙ c.loop-turn.invariant.reads;
}

pub returns-clause-fault : goal.returns-clause-fault
returns-clause-fault g c =
    if-some (g.I.Input.tells c.args.input.now) _ (λ text e. omega (arith, (c.loop-turn.invariant.cutting text e).front.shorter, c.loop-turn-test.false))
