use Rattle.std.proofs.Common.{◌≡◌, ◌∙◌, sym, true, subst}
use Rattle.rj_columns.specs.Numbers.{Number, number_of}
use Rattle.rj_columns.specs.NumberOrder.{are_same}
use Rattle.rj_columns.specs.LeastNumbers.{IsLeast}
use Rattle.rj_columns.proofs.LeastNumbers.{least-value, least-least, same-least}
use Rattle.rj_columns.proofs.decimal.forms.least.Goals as goal

pub returns-clause-value : goal.returns-clause-value
returns-clause-value c =
    let P : Number → Type 0 = λ l. are_same (number_of c.args.decimal) l ≡ true in
    subst P (sym c.drop_zeros.ensures) (least-value (number_of c.args.decimal))

pub returns-clause-least : goal.returns-clause-least
returns-clause-least c =
    let P : Number → Type 0 = λ l. IsLeast l in
    subst P (sym c.drop_zeros.ensures) (least-least (number_of c.args.decimal))

pub returns-clause-one : goal.returns-clause-one
returns-clause-one c = λ x. (
  λ e. c.drop_zeros.ensures ∙ (same-least (number_of c.args.decimal) x).0 e,
  λ e. (same-least (number_of c.args.decimal) x).1 (sym c.drop_zeros.ensures ∙ e),
)
