use Rattle.std.proofs.Common.{◌≡◌, ◌<◌, length, ◌+◌, ◌-◌, refl, sym, ap, arith, ◌∙◌}
use Rattle.rj_csv_io.specs.Cuts.{after_quote}
use Rattle.rj_csv_io.proofs.PlaceFacts.{no-quote, run-quote, place-none, rest-at}
use Rattle.std.proofs.lemmas.List.{length-drop, take_rest}
use Rattle.rj_csv_io.proofs.place.scan.Goals as goal

pub loop-turn-init : goal.loop-turn-init
loop-turn-init c = record { within = omega arith; turn = omega arith; end = refl; place = sym (place-none c.args.delimiter c.args.start) }

pub run-requires-clause-plain : goal.run-requires-clause-plain
run-requires-clause-plain c =
    let size = length-drop c.loop-turn.at c.args.text.now in
    let rest = ap length (take_rest c.args.text.now c.loop-turn.at) in
    λ i a b. no-quote c.args.text.now c.loop-turn.at (length c.args.text.now - c.loop-turn.at) (λ k x y. c.in-None.ensures k x (omega (arith, size, rest, y))) i a (omega (arith, b, c.loop-turn.invariant.within))

pub run-requires-in-Some-clause-plain : goal.run-requires-in-Some-clause-plain
run-requires-in-Some-clause-plain c =
    no-quote c.args.text.now c.loop-turn.at c.in-Some.k c.in-Some.ensures.0.before

pub loop-turn-preserved : goal.loop-turn-preserved
loop-turn-preserved c =
    let size = length-drop c.loop-turn.at c.args.text.now in
    let rest = ap length (take_rest c.args.text.now c.loop-turn.at) in
    let high = c.in-Some.ensures.0.high in
    let within : c.loop-turn.at + c.in-Some.k < length c.args.text.now = omega (arith, size, rest, high) in
    let found = rw (rest-at c.args.text.now c.loop-turn.at c.in-Some.k) at c.in-Some.ensures.1 in
    let run = c.run-in-Some.ensures c.args.start c.loop-turn.invariant.place in
    let e : c.loop-turn.at + (c.in-Some.k + 1) ≡ (c.loop-turn.at + c.in-Some.k) + 1 = omega arith in
    record {
      within = omega (arith, within);
      turn = omega (arith, c.loop-turn.invariant.turn);
      end = refl;
      place = c.quoted-place.ensures ∙ ap after_quote run
          ∙ sym (rw e (run-quote c.args.delimiter c.args.start c.args.text.now (c.loop-turn.at + c.in-Some.k) within found));
    }
