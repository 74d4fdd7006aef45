use Rattle.std.proofs.Common.{◌<◌, ◌++◌, ◌∷◌, ◌∙◌, [], ap, arith, length, sym}
use Rattle.std.proofs.lemmas.List.{map_more}
use Rattle.rj_engine.specs.Internal.Marks.{row_on}
use Rattle.rj_engine.proofs.violations.rows_on.Goals as goal

pub loop-place-preserved : goal.loop-place-preserved
loop-place-preserved c =
    let f = row_on c.args.side in let pairs = c.args.pairs.now in let i = c.loop-place.place in
    let low : i < length pairs = omega (arith, c.loop-place-test.true, c.len-place-end.ensures.count) in
    let is = c.row_on.ensures ∙ ap f (sym (c.get.ensures (0, 0))) in
    c.in_ok-push.ensures.items ∙ ((λ t. c.loop-place.invariant t ++ is t ∷ []) ∙ sym (map_more f pairs i (0, 0) low))
