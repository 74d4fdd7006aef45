use Rattle.std.proofs.Common.{List, ℕ, arith, subst}
use Rattle.rj_explain.specs.Places.{EndsFirst}
use Rattle.rj_explain.proofs.PlaceFacts.{no-row, rest-drop, stands-first, stands-more}
use Rattle.rj_explain.proofs.places.place_of_row.Goals as goal

pub loop-above-init : goal.loop-above-init
loop-above-init c = record { within = omega arith; rows = omega arith; stands = stands-first c.args.delimiter c.args.text.now }

pub returns-in-None-clause-place : goal.returns-in-None-clause-place
returns-in-None-clause-place c =
    let none = rw (rest-drop c.args.text.now c.loop-above.at) at c.in-None.ensures.record in
    no-row c.args.delimiter c.args.text.now c.loop-above._above c.args.row c.loop-above.at c.loop-above.invariant.stands (omega arith) none

pub loop-above-preserved : goal.loop-above-preserved
loop-above-preserved c =
    let text = c.args.text.now in
    let at = c.loop-above.at in
    let rest = rest-drop text at in
    let more = subst (λ (xs : List ℕ). EndsFirst c.args.delimiter xs c.in-Some.size) rest c.in-Some.ensures.record in
    record { within = omega (arith, c.in-Some.ensures.within); rows = omega (arith, c.in-Some.ensures.size); stands = stands-more c.args.delimiter text c.loop-above._above at c.in-Some.size c.loop-above.invariant.stands more }
