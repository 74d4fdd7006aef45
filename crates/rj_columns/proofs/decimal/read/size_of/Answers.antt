use Rattle.std.proofs.Common.{◌∙◌, ◌-◌, drop, length, ap, sym, arith}
use Rattle.std.proofs.lemmas.List.{take_all, length-drop}
use Rattle.rj_columns.specs.NumbersRead.{are_zeros}
use Rattle.rj_columns.proofs.NumberSizes.{size-none, size-small, size-some}
use Rattle.rj_columns.proofs.decimal.read.size_of.Goals as goal

pub returns-in_default-clause-size : goal.returns-in_default-clause-size
returns-in_default-clause-size c = size-none c.args.kind.precision c.args.kind.scale c.min-kept.result c.args.before.now c.args.after.now (omega arith) (omega arith) c.in_default.ensures

pub returns-clause-size : goal.returns-clause-size
returns-clause-size c =
    let after = c.args.after.now in
    let kept = c.min-kept.result in
    let rest = ap are_zeros (sym (take_all (length after - kept) (drop kept after) (omega (arith, length-drop kept after)))) in
    size-some c.args.kind.precision c.args.kind.scale kept c.in-Some.value c.args.before.now after c.with_zeros.result (omega arith)
    c.in-Some.ensures.0.0 c.in-Some.ensures.1 (rest ∙ (sym c.is_zeros.ensures ∙ c.if-not-is_zeros.false)) c.with_zeros.ensures

pub returns-clause-small : goal.returns-clause-small
returns-clause-small c = size-small c.args.kind.precision c.args.kind.scale c.args.before.now c.args.after.now c.with_zeros.result (omega arith) (returns-clause-size c)
