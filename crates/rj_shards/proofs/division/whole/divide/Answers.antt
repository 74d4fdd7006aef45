use Rattle.std.proofs.Common.{◌≡◌, ◌∙◌, Ok, ap, inr, refl, subst, arith, length, map}
use Rattle.rj_shards.specs.Divisions.{dividing}
use Rattle.rj_shards.specs.Texts.{IsDivisionFault}
use Rattle.rj_shards.specs.declared.division.refused.DivideRefused.TheVariants as refused
use Rattle.rj_shards.proofs.LenientFacts.{if-some}
use Rattle.rj_shards.proofs.UnderwayFacts.{first-kept, start}
use Rattle.rj_shards.proofs.division.whole.divide.Goals as goal

pub loop-turn-init : goal.loop-turn-init
loop-turn-init g c = record {
  underway = λ text e.
      start (dividing g.R.Route.part c.args.division.now) c.args.reading (record { text = text; told = map g.O.Output.told c.args.outputs.now })
      (record { bytes = c.new.result; rows = 0; reading = c.args.reading }) (g.I.Input.tells c.args.input.now) e c.new.ensures.items refl refl;
  reads = refl;
  writes = refl;
  untouched = λ b begins. (refl, refl, refl);
}

pub returns-in-Ok-true-clause-divided : goal.returns-in-Ok-true-clause-divided
returns-in-Ok-true-clause-divided g c =
    if-some (g.I.Input.tells c.args.input.now) _ (λ text e.
    c.in-Ok-true.ensures.last (ap Ok c.in-Ok-true.field-0-test) c.args.reading (record { text = text; told = map g.O.Output.told c.args.outputs.now }) c.loop-turn._turn (c.loop-turn.invariant.underway text e))

pub returns-in-Err-clause-fault : goal.returns-in-Err-clause-fault
returns-in-Err-clause-fault g c = λ t b.
    let same : length c.loop-turn.outputs ≡ length c.args.outputs.now = omega (arith, c.loop-turn.auto.outputs) in
    if-some (g.I.Input.tells c.args.input.now) _ (λ text e.
    subst (λ k. IsDivisionFault (dividing g.R.Route.part c.args.division.now) c.args.block c.args.reading text k c.in-Err.refused) same
    (c.in-Err.ensures.fault t c.args.reading (record { text = text; told = map g.O.Output.told c.args.outputs.now }) c.loop-turn._turn b (c.loop-turn.invariant.underway text e)))

pub loop-turn-preserved : goal.loop-turn-preserved
loop-turn-preserved g c = record {
  underway = λ text e.
      c.in-Ok-false.ensures.more (ap Ok c.in-Ok-false.field-0-test) c.args.reading (record { text = text; told = map g.O.Output.told c.args.outputs.now }) c.loop-turn._turn (c.loop-turn.invariant.underway text e);
  reads = c.in-Ok-false.ensures.reads ∙ c.loop-turn.invariant.reads;
  writes = c.in-Ok-false.ensures.writes ∙ c.loop-turn.invariant.writes;
  untouched = λ b begins. let made = c.in-Ok-false.ensures.begins.1 in absurd (cc);
}

pub returns-clause-fault : goal.returns-clause-fault
returns-clause-fault g c = λ t b.
    if-some (g.I.Input.tells c.args.input.now) _ (λ text e. inr (inr (omega (arith, (c.loop-turn.invariant.underway text e).front.shorter, c.loop-turn-test.false))))

pub returns-in-Ok-true-clause-untouched : goal.returns-in-Ok-true-clause-untouched
returns-in-Ok-true-clause-untouched g c = λ b begins. let made = c.in-Ok-true.ensures.begins.1 in absurd (cc)

pub returns-in-Err-clause-refusal : goal.returns-in-Err-clause-refusal
returns-in-Err-clause-refusal g c = λ b begins. c.in-Err.ensures.refusal b begins (c.loop-turn.invariant.untouched b begins).1

pub returns-in-Err-clause-untouched : goal.returns-in-Err-clause-untouched
returns-in-Err-clause-untouched g c = λ b begins. c.divide_next.ensures.untouched b begins ∙ (c.loop-turn.invariant.untouched b begins).2

pub returns-clause-refusal : goal.returns-clause-refusal
returns-clause-refusal g c = λ b begins. absurd (omega (arith, (c.loop-turn.invariant.untouched b begins).0, c.loop-turn-test.false))

pub returns-clause-untouched : goal.returns-clause-untouched
returns-clause-untouched g c = λ b begins. (c.loop-turn.invariant.untouched b begins).2

pub returns-in-Err-clause-partly : goal.returns-in-Err-clause-partly
returns-in-Err-clause-partly g c =
    if-some (g.I.Input.tells c.args.input.now) _ (λ text e.
    c.in-Err.ensures.partly c.args.reading (record { text = text; told = map g.O.Output.told c.args.outputs.now }) c.loop-turn._turn (c.loop-turn.invariant.underway text e))

pub returns-clause-partly : goal.returns-clause-partly
returns-clause-partly g c =
    if-some (g.I.Input.tells c.args.input.now) _ (λ text e.
    first-kept (dividing g.R.Route.part c.args.division.now) c.args.reading (record { text = text; told = map g.O.Output.told c.args.outputs.now }) c.loop-turn.rest (g.I.Input.tells c.loop-turn.input)
    (map g.O.Output.told c.loop-turn.outputs) c.loop-turn._turn refused.TooLong (c.loop-turn.invariant.underway text e))
