use Rattle.std.proofs.Common.{subst, sym}
use Rattle.rj_line.specs.declared.fault.Fault.{Fault}
use Rattle.rj_files.specs.Explained.{AreLinesBy}
use Rattle.rj_files.proofs.joining.opened.Goals as goal

pub returns-in-Err-clause-asked : goal.returns-in-Err-clause-asked
returns-in-Err-clause-asked g c =
    let inputs = c.inputs-inputs in
    subst (λ (f : Fault). AreLinesBy c.args.line.now c.args.tables.now.left.items c.args.tables.now.right.items f c.explained.result.lines) (sym c.explained.ensures.fault)
    (inputs.result, inputs.ensures.left, inputs.ensures.right, inputs.ensures.request, c.explained.ensures.lines)
