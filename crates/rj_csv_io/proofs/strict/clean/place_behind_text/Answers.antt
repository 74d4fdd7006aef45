use Rattle.std.proofs.Common.{◌≡◌, ◌<◌, ◌+◌, ◌-◌, length, take, drop, refl, sym, ap, arith, ◌∙◌, Some}
use Rattle.std.proofs.lemmas.Bool.{eqb-true}
use Rattle.std.proofs.lemmas.List.{length-drop, take_rest, at_drop_all}
use Rattle.rj_csv_io.specs.Internal.StrictWalk.{walk, over_quote}
use Rattle.rj_csv_io.specs.declared.strict.standing.Place.{Place}
use Rattle.rj_csv_io.proofs.Slices.{rest-at}
use Rattle.rj_csv_io.proofs.WalkFacts.{walk-none}
use Rattle.rj_csv_io.proofs.CleanFacts.{some-is, turn}
use Rattle.rj_csv_io.proofs.strict.clean.place_behind_text.Goals as goal

pub loop-turn-preserved : goal.loop-turn-preserved
loop-turn-preserved c =
    let d = c.args.delimiter in
    let text = c.args.text.now in
    let from = c.loop-turn.at in
    let k = c.in-Some.k in
    let size = length-drop from text in
    let rest = ap length (take_rest text from) in
    let high = c.in-Some.ensures.0.high in
    let within : from + k < length text = omega (arith, size, rest, high) in
    let found = rw (rest-at text from k) at c.in-Some.ensures.1 in
    let p = c.in_ok-stretch-in-Some.field-0 in
    let walked = some-is c.stretch-in-Some.result p (λ (q : Place). walk d c.loop-turn.place (take (from + k - from) (drop from text)) ≡ Some q) c.in_ok-stretch-in-Some.was c.stretch-in-Some.ensures in
    let over : over_quote p ≡ Some c.in_ok-place-in-Some.place = sym c.behind_quote.ensures ∙ c.in_ok-place-in-Some.was in
    record {
      within = omega (arith, within);
      turn = omega (arith, c.loop-turn.invariant.turn);
      end = refl;
      walked = sym (turn d text from k c.loop-turn.place p c.in_ok-place-in-Some.place within (eqb-true _ 34 found) walked over) ∙ c.loop-turn.invariant.walked;
    }

pub returns : goal.returns
returns c =
    let past = at_drop_all (walk c.args.delimiter c.loop-turn.place) c.args.text.now c.loop-turn.at (omega (arith, c.loop-turn.invariant.turn, c.loop-turn.invariant.end)) in
    sym c.loop-turn.invariant.walked ∙ past ∙ walk-none c.args.delimiter c.loop-turn.place
