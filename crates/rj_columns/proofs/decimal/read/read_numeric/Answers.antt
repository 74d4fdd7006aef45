use Rattle.std.proofs.Common.{◌∙◌, ap, Some, rules}
use mir.Val.{SFits}
use mir.Syntax.{w64}
use Rattle.std.proofs.Math.Facts.{to_z-of_z}
use Rattle.rj_columns.proofs.NumberValues.{units-small, units_value}
use Rattle.rj_columns.proofs.decimal.read.read_numeric.Goals as goal

pub returns-in-Some-clause-value : goal.returns-in-Some-clause-value
returns-in-Some-clause-value c =
    let fits : SFits w64 c.in-Some.units = search rules in
    units_value c.args.kind.precision c.args.kind.scale c.args.text.now _ (ap Some (to_z-of_z fits) ∙ c.in-Some.ensures)

pub returns-in-Some-clause-small : goal.returns-in-Some-clause-small
returns-in-Some-clause-small c =
    let fits : SFits w64 c.in-Some.units = search rules in
    units-small c.args.kind.precision c.args.kind.scale c.args.text.now _ (ap Some (to_z-of_z fits) ∙ c.in-Some.ensures)
