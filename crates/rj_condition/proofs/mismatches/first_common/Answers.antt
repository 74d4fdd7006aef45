use Rattle.std.proofs.Common.{◌≡◌, ◌∙◌, None, Option, Some, ap, option_map, sym}
use Rattle.rj_columns.specs.Tables.{TableValue}
use Rattle.rj_condition.specs.declared.bound.BoundOperand.{BoundOperand}
use Rattle.rj_condition.specs.declared.bound.BoundOperand.TheVariants as bound
use Rattle.rj_condition.specs.Mismatches.{Pair, apart}
use Rattle.rj_condition.proofs.MismatchFacts.{common_at, common_found, common_next}
use Rattle.rj_condition.proofs.mismatches.first_common.Goals as goal

-- what was found of two operands is what the definition has of these
same : (l r : TableValue) (x y x2 y2 : Option BoundOperand) (found want : Option Pair) → x ≡ x2 → y ≡ y2 → found ≡ apart l r x y → found ≡ want → apart l r x2 y2 ≡ want
same l r x y x2 y2 found want e f h is = sym (ap (λ z. apart l r z y) e ∙ ap (apart l r x2) f) ∙ sym h ∙ is

pub returns-in-Some : goal.returns-in-Some
returns-in-Some c =
    let l = c.args.left.now in
    let r = c.args.right.now in
    let n = c.name.result.now in
    let at : common_at l r c.loop-i.i n ≡ Some c.in-Some.found =
    same l r _ _ _ _ c.apart.result (Some c.in-Some.found) c.as_left-x.ensures (c.as_right-y.ensures ∙ ap (option_map bound.Right) c.column_called.ensures.place) c.apart.ensures c.in-Some.is in
    sym (common_found l r c.loop-i.i n c.in-Some.found c.name.ensures at) ∙ c.loop-i.invariant.0

pub loop-i-preserved : goal.loop-i-preserved
loop-i-preserved c =
    let l = c.args.left.now in
    let r = c.args.right.now in
    let n = c.name.result.now in
    let at : common_at l r c.loop-i.i n ≡ None =
    same l r _ _ _ _ c.apart.result None c.as_left-x.ensures (c.as_right-y.ensures ∙ ap (option_map bound.Right) c.column_called.ensures.place) c.apart.ensures c.in_default.is in
    (sym (common_next l r c.loop-i.i n c.name.ensures at) ∙ c.loop-i.invariant.0, c.loop-i.invariant.1)
