use Rattle.std.proofs.Common.{◌≡◌, ℕ, ap, sym, ◌∙◌, rules, Some}
use Rattle.std.proofs.lemmas.List.{nil_from_length}
use Rattle.std.specs.Slice.Iter.{chunks_rest}
use Rattle.rj_csv_io.specs.Internal.StrictWalk.{walk}
use Rattle.rj_csv_io.specs.declared.strict.standing.Place.{Place}
use Rattle.rj_csv_io.specs.declared.strict.standing.Place.TheVariants as place
use Rattle.rj_csv_io.proofs.WalkFacts.{walk-none}
use Rattle.rj_csv_io.proofs.CleanFacts.{some-is, over-part}
use Rattle.rj_csv_io.proofs.strict.clean.place_at_end.Goals as goal

pub loop-part-preserved : goal.loop-part-preserved
loop-part-preserved c =
    let d = c.byte-byte.result in
    let from = c.loop-part.place in
    let to = c.in_ok-place.place in
    let part = c.in-Some.part.now in
    let walked = some-is c.place_behind_text.result to (λ (q : Place). walk d from part ≡ Some q) c.in_ok-place.was c.place_behind_text.ensures in
    let step = over-part d from to _ part (chunks_rest c.next.new.self) c.in-Some.ensures.steps.1.0 walked in
    (search rules, tt, sym step ∙ c.loop-part.invariant.2)

pub returns : goal.returns
returns c =
    let none = nil_from_length _ c.in-None.ensures.steps.1.0 in
    ap (λ (d : ℕ). walk d place.Start c.args.text.now) (sym c.byte-byte.ensures.value) ∙ (sym c.loop-part.invariant.2 ∙ rw none (walk-none c.byte-byte.result c.loop-part.place))
