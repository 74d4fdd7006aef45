use Rattle.std.proofs.Common.{◌∙◌, sym, arith, rules}
use mir.Val.{SFits}
use mir.Syntax.{w64}
use Rattle.std.proofs.Math.Facts.{to_z-of_z}
use Rattle.rj_columns.proofs.LeastNumbers.{zeros-go_on, zeros-end, zeros-none}
use Rattle.rj_columns.proofs.decimal.forms.drop_zeros.Goals.{then-loop-scale-test+else-has_last_zero, else-loop-scale-test}
use Rattle.rj_columns.proofs.decimal.forms.drop_zeros.Goals as goal

pub loop-scale-preserved : goal.loop-scale-preserved
loop-scale-preserved c =
    let fits : SFits w64 c.tenth-units.result = search rules in
    record {
      form = zeros-go_on _ _ c.loop-scale.scale _ c.loop-scale-test.true (sym c.if-has_last_zero.true ∙ c.has_last_zero.ensures) (to_z-of_z fits ∙ c.tenth-units.ensures) c.loop-scale.invariant.form;
      in_range = omega (arith, c.loop-scale.invariant.in_range);
    }

pub returns : goal.returns
returns c = elim c.loop-scale-test.branch [
  | then-loop-scale-test+else-has_last_zero w ↦ zeros-end _ c.loop-scale.scale _ w.loop-scale-test.true (sym w.if-has_last_zero.false ∙ w.has_last_zero.ensures) c.loop-scale.invariant.form
  | else-loop-scale-test w ↦ zeros-none _ c.loop-scale.scale _ (omega (arith, w.loop-scale-test.false)) c.loop-scale.invariant.form
]
