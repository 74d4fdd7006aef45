use Rattle.std.proofs.Common.{◌∙◌, ◌+◌, take, length, ap, arith}
use Rattle.std.proofs.lemmas.List.{drop_all}
use Rattle.rj_columns.proofs.NumberSizes.{is_below, unsigned-empty, unsigned-open}
use Rattle.rj_columns.proofs.decimal.read.size_in.Goals.{then-point-eq0-via-then-point-eq0, then-point-eq0-via-else-point-eq0+then-point-text}
use Rattle.rj_columns.proofs.decimal.read.size_in.Goals as goal

pub returns-then-point-eq0-clause-size : goal.returns-then-point-eq0-clause-size
returns-then-point-eq0-clause-size c =
    let text = c.args.text.now in
    let point = c.point_of-point.result in
    let found = c.point_of-point.ensures in
    elim c.then-point-eq0.branch [
      | then-point-eq0-via-then-point-eq0 w ↦ λ h. unsigned-empty text (found.before ∙ ap (λ n. take n text) w.if-point-eq0.true) h.0
      | then-point-eq0-via-else-point-eq0+then-point-text w ↦ λ h.
          unsigned-open text (found.point ∙ is_below point (length text) (omega (arith, w.if-point-text.true))) (found.after ∙ drop_all (point + 1) text (omega (arith, w.if-point-text.true))) h.0
    ]
