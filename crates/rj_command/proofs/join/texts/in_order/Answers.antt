use Rattle.std.proofs.Common.{◌≡◌, ◌∷◌, ◌+◌, ◌<◌, ◌∙◌, ap, arith, drop, get_or, length, set, subst, sym}
use Rattle.std.proofs.lemmas.List.{drop_more, get_or_default, length-set}
use Rattle.rj_engine.specs.declared.runs.Run.{Run}
use Rattle.rj_command.specs.Internal.Texts.{AreCounted, AreTextsOf}
use Rattle.rj_command.proofs.TextFacts.{left-counted, left-texts, next-there, whole-more}
use Rattle.rj_command.proofs.join.texts.in_order.Goals as goal

pub loop-run-preserved : goal.loop-run-preserved
loop-run-preserved c =
    let runs = c.args.runs.now in
    let i = c.loop-run.run-index in
    let low = c.loop-run-test.true in
    let none : Run = record { segment = 0; first = 0; from = 0; to = 0 } in
    let run = get_or runs i none in
    let is : run ≡ get_or runs i run = get_or_default runs i none run low in
    let made = c.loop-run.made.items in
    let own = c.index_mut-own.result.now in
    let left = c.remove-next.new.self in
    let next = c.remove-next.result in
    let many = c.loop-run.invariant.many in
    let named = c.segment.ensures in
    let segment = c.requires.segments i none low in
    let inside : run.segment < length made = omega (arith, many, segment) in
    let at = c.index_mut-own.ensures.value ∙ ap (λ n. get_or made n own) named in
    let some = next-there runs i run made own low is inside at c.loop-run.invariant.count in
    let taken : own.items ≡ next ∷ left.items = drop_more own.items 0 next some ∙ (λ t. sym c.remove-next.ensures.value t ∷ sym c.remove-next.ensures.items t) in
    record {
      many = length-set made c.segment.result left ∙ many;
      count = subst (λ n. AreCounted (drop (i + 1) runs) (set made n left)) (sym named) (left-counted runs i run made own left next low is inside at taken c.loop-run.invariant.count);
      texts = λ text all.
          let before = c.loop-run.invariant.texts text all in
          let now = left-texts text runs i run made own left next low is inside at taken before.0 in (
            subst (λ n. AreTextsOf text (drop (i + 1) runs) (set made n left)) (sym named) now.1,
            whole-more text runs i run c.loop-run.texts next c.append.new.self low is c.in_ok-append.ensures.items before.1 now.0,
          );
    }
