use Rattle.std.proofs.Common.{◌≡◌, ◌<◌, ◌∙◌, length, arith, below_more}
use Rattle.std.proofs.lemmas.List.{get_or_read}
use Rattle.rj_engine.specs.Violations.{times}
use Rattle.rj_engine.proofs.Repeats.{at-most-once}
use Rattle.rj_engine.proofs.violations.first_repeated.Goals as goal

pub loop-number-preserved : goal.loop-number-preserved
loop-number-preserved c =
    let k = c.loop-number.number in
    let low : k < c.args.count = omega arith in
    let within : k < length c.in_ok-counts.counts.items = omega (arith, low, c.in_ok-counts.ensures.len) in
    let is : c.index-often.result.now ≡ times k c.args.numbers.now = get_or_read c.in_ok-counts.counts.items k c.index-often.result.now within c.index-often.ensures 0 ∙ c.in_ok-counts.ensures.each k low in
    below_more _ _ c.loop-number.invariant (omega (arith, is, c.if-often-gt1.false))

pub returns : goal.returns
returns c = at-most-once c.args.numbers.now c.args.count c.requires (λ k low. c.loop-number.invariant k (omega arith))
