use Rattle.std.proofs.Common.{◌∙◌, arith, rules}
use mir.Val.{SFits}
use mir.Syntax.{w128}
use Rattle.std.proofs.Math.Facts.{to_z-of_z}
use Rattle.rj_columns.specs.Numbers.{number_of}
use Rattle.rj_columns.proofs.NumberOrders.{equal-is, ordered-by, ordered-units}
use Rattle.rj_columns.proofs.decimal.comparison.compare.Goals as goal

pub returns-then-left-right-clause-order : goal.returns-then-left-right-clause-order
returns-then-left-right-clause-order c = c.cmp.ensures ∙ ordered-units (number_of c.args.left) (number_of c.args.right) c.if-left-right.true

pub returns-then-left-right-clause-equal : goal.returns-then-left-right-clause-equal
returns-then-left-right-clause-equal c = equal-is (number_of c.args.left) (number_of c.args.right) c.cmp.result (returns-then-left-right-clause-order c)

pub returns-clause-order : goal.returns-clause-order
returns-clause-order c =
    let left : SFits w128 c.rescale.result = search rules in
    let right : SFits w128 c.rescale-2.result = search rules in
    ordered-by (number_of c.args.left) (number_of c.args.right) c.max-scale.result _ _ c.cmp-2.result (omega arith) (omega arith)
    (to_z-of_z left ∙ c.rescale.ensures.units) (to_z-of_z right ∙ c.rescale-2.ensures.units) c.cmp-2.ensures

pub returns-clause-equal : goal.returns-clause-equal
returns-clause-equal c = equal-is (number_of c.args.left) (number_of c.args.right) c.cmp-2.result (returns-clause-order c)
