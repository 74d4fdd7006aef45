use Rattle.std.proofs.Common.{subst, sym}
use Rattle.rj_line.specs.declared.fault.Fault.{Fault}
use Rattle.rj_files.specs.Explained.{AreLinesBy}
use Rattle.rj_files.specs.Streams.{IsAskedFault}
use Rattle.rj_files.proofs.joining.write_asked.Goals as goal

pub returns-clause-fault : goal.returns-clause-fault
returns-clause-fault g c =
    let why = rw (c.inputs-inputs.ensures.left, c.inputs-inputs.ensures.right) at c.in-Err-write_bytes.ensures.fault in
    subst (λ (f : Fault). IsAskedFault c.args.line.now c.args.tables.left.items c.args.tables.right.items f) (sym c.explained.ensures.fault) why

pub returns-clause-asked : goal.returns-clause-asked
returns-clause-asked g c asks other =
    let inputs = c.inputs-inputs in
    subst (λ (f : Fault). AreLinesBy c.args.line.now c.args.tables.left.items c.args.tables.right.items f c.explained.result.lines) (sym c.explained.ensures.fault)
    (inputs.result, inputs.ensures.left, inputs.ensures.right, inputs.ensures.request, c.explained.ensures.lines)
