use Rattle.std.proofs.Common.{◌≡◌, ◌<◌, ◌-◌, ◌++◌, ◌∷◌, [], ◌∙◌, ap, arith, drop, length, map, sym, take}
use Rattle.rj_engine.specs.Chosen.{shown_rows}
use Rattle.rj_engine.specs.Ends.{right_row}
use Rattle.rj_engine.proofs.EndFacts.{right-more}
use Rattle.rj_engine.proofs.ends.right_rows.Goals as goal

pub loop-place-init : goal.loop-place-init
loop-place-init c =
    let rows = shown_rows c.args.shown.now.chosen c.args.joined.now.members in
    let none : c.args.run.from - c.args.run.from ≡ 0 = omega arith in
    c.in_ok-rows.ensures.items ∙ sym (ap (λ n. map (right_row c.args.none) (take n (drop c.args.run.from rows))) none)

pub loop-place-preserved : goal.loop-place-preserved
loop-place-preserved c =
    let rows = shown_rows c.args.shown.now.chosen c.args.joined.now.members in
    let inside : c.loop-place.place < length rows = omega (arith, c.loop-place-test.true, c.requires.within) in
    c.in_ok-push.ensures.items
    ∙ ((λ t. c.loop-place.invariant t ++ c.right_row.ensures t ∷ [])
    ∙ sym (right-more c.args.none rows c.args.run.from c.loop-place.place c.row_at.result (omega arith) inside c.row_at.ensures))
