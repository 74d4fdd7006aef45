use Rattle.std.proofs.Common.{ℕ, ◌≡◌, ◌<◌, List, Bor, map, length, get_or, refl, ap, ◌∙◌, arith, [], Some, None}
use Rattle.std.proofs.lemmas.List.{length-map}
use Rattle.rj_csv_io.specs.Internal.StrictWalk.{walk}
use Rattle.rj_csv_io.specs.declared.strict.standing.Place.{Place}
use Rattle.rj_csv_io.specs.declared.strict.standing.Place.TheVariants as place
use Rattle.rj_csv_io.proofs.WalkFacts.{walk-none}
use Rattle.rj_csv_io.proofs.CleanFacts.{some-is}
use Rattle.rj_csv_io.proofs.StrictPartFacts.{over-text}
use Rattle.rj_csv_io.proofs.strict.parts.place_after_all.Goals as goal

pub loop-i-init : goal.loop-i-init
loop-i-init c = record { end = refl; walked = λ d all. walk-none d place.Start }

pub loop-i-preserved : goal.loop-i-preserved
loop-i-preserved c =
    let texts = map (λ (t : Bor (List ℕ)). t.now) c.args.texts.now in
    let size = length-map c.args.texts.now (λ (t : Bor (List ℕ)). t.now) in
    let i = c.loop-i.i in
    let to = c.in_ok-place-in-Start.place in
    let within : i < length texts = omega (arith, size, c.loop-i-test.true) in
    record {
      end = refl;
      walked = λ d all.
          let here = some-is (get_or c.args.places.now i None) to (λ (q : Place). walk d place.Start (get_or texts i []) ≡ Some q) c.in_ok-place-in-Start.was (all i None within) in
          over-text d texts i to within (c.loop-i.invariant.walked d all ∙ ap (λ (p : Place). Some p) c.in-Start.is) here;
    }
